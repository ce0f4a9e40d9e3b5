use Rattle.std.proofs.Common.{subst, rules, tests}
use Rattle.std.proofs.lemmas.Iterator.{YieldsList-from_slice}
use Rattle.std.proofs.lemmas.Iterator.Search.{position_from_yields_List}
use Rattle.scope.specs.Places.{PlaceOf}
use Rattle.scope.proofs.Claims.{is_of, place_from_position}
use Rattle.scope.proofs.shape.Scope.place_of.Goals as goal

pub returns : goal.returns
returns c =
    let is = position_from_yields_List (is_of c.args.tr) _ _ c.position.result c.position.ensures.ran (YieldsList-from_slice c.entries.result.now cc) (λ x b q k. search (rules, tests)) in
    subst (λ es. PlaceOf es c.args.tr c.position.result) c.entries.ensures.are (place_from_position c.entries.result.now c.args.tr c.position.result is)
