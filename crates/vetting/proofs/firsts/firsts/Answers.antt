use Rattle.std.proofs.Common.{◌≡◌, Bool, true, List, [], ◌∷◌, ◌++◌, arith}
use Rattle.std.specs.Cmp.{IsEquivalence}
use Rattle.std.specs.HashSet.{HashSet, contains, Updates}
use Rattle.std.specs.List.{list_any}
use Rattle.std.proofs.lemmas.Grind.{common_steps}
use Rattle.std.proofs.lemmas.List.Folds.{list_any-append}
use Rattle.vetting.proofs.Keeping.{firsts-push}
use Rattle.vetting.proofs.firsts.firsts.Goals as goal

-- the set holds what came, with one element more
came_more : {T S : Type 0} {same : T → T → Bool} → IsEquivalence same → (xs : List T) (x : T) (before after : HashSet T S) → ((q : T) → contains same before q ≡ list_any (same q) xs) → Updates same before after x true → (q : T) → contains same after q ≡ list_any (same q) (xs ++ x ∷ [])
came_more laws xs x before after held new q = grind (arith, common_steps, list_any-append, laws.symm q x, held q)

pub loop-x-preserved-in-Continue-branch-2 : goal.loop-x-preserved-in-Continue-branch-2
loop-x-preserved-in-Continue-branch-2 g c =
    let more = firsts-push g.met.T.Eq.laws c.loop-x.yielded c.in-Some.x in
    let at_x = c.loop-x.invariant.1 c.in-Some.x in
    (grind (arith, common_steps, more, at_x, c.loop-x.invariant.0), came_more g.met.T.Eq.laws c.loop-x.yielded c.in-Some.x c.loop-x.seen c.insert.new.self c.loop-x.invariant.1 c.in_ok-insert.ensures.updates)

pub loop-x-preserved : goal.loop-x-preserved
loop-x-preserved g c =
    let more = firsts-push g.met.T.Eq.laws c.loop-x.yielded c.in-Some.x in
    let at_x = c.loop-x.invariant.1 c.in-Some.x in
    (grind (arith, common_steps, more, at_x, c.loop-x.invariant.0), came_more g.met.T.Eq.laws c.loop-x.yielded c.in-Some.x c.loop-x.seen c.insert.new.self c.loop-x.invariant.1 c.in_ok-insert.ensures.updates)
