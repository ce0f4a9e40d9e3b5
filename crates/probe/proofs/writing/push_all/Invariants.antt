use Rattle.probe.specs.Writing.{Writes}
use Rattle.probe.proofs.writing.push_all.Given as goal

-- the items so far have gone on the roll
abbrev pub invariant-loop-item : goal.invariant-loop-item
invariant-loop-item g l = Writes l.initial.list l.yielded l.list
