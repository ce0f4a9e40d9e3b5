use Rattle.std.proofs.Common.{take}
use Rattle.rows.specs.Lists.{Gathered}
use Rattle.rows.proofs.lists.slots_of.Given as goal

abbrev pub invariant-loop-row : goal.invariant-loop-row
invariant-loop-row l = Gathered l.listing (take l.row-index l.rows) l.slots
