use Rattle.std.proofs.Common.{◌≡◌, vec_items}
use Rattle.std.specs.HashSet.{contains}
use Rattle.std.specs.List.{list_any}
use Rattle.vetting.specs.Firsts.{firsts}
use Rattle.vetting.proofs.firsts.firsts.Given as goal

-- what was found is what came, each element once, and the set holds what came
abbrev pub invariant-loop-x : goal.invariant-loop-x
invariant-loop-x g l = (vec_items l.found ≡ firsts g.T.PartialEq.eq l.yielded) × ((q : _) → contains g.T.PartialEq.eq l.seen q ≡ list_any (g.T.PartialEq.eq q) l.yielded)
