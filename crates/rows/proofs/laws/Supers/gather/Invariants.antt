use Rattle.std.proofs.Common.{◌≡◌, ◌+◌, length, map}
use Rattle.roll.specs.Rolls.{contents, beyond}
use Rattle.rows.proofs.laws.Supers.gather.Given as goal

abbrev pub invariant-loop-row : goal.invariant-loop-row
invariant-loop-row l = (l.list.items.ghost_name ≡ l.initial.list.items.ghost_name) × (contents l.list ≡ map (λ r. r.r1) l.yielded) × (length (beyond l.list) + length l.yielded ≡ 64)
