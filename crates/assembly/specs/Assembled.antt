-- What assembly leaves on the lists.
use Rattle.std.specs.Prelude.{◌≡◌, List, [], ◌++◌, flat_map}
use Rattle.roll.specs.Rolls.{contents}
use Rattle.method_resolution.specs.Types.{Err, Ok, Refusal, Result}
use Rattle.method_resolution.specs.Questions.{Question, Scope}
use Rattle.method_resolution.specs.Offers.{Offer, step_offers, trait_offers, offers}
use Rattle.method_resolution.specs.Assembly.{ListName, Fits, Overfills}
use Rattle.assembly.specs.declared.lists.CandidateLists.{CandidateLists}
use Rattle.assembly.specs.Growth.{room, list_of, ListsHold, Holds}

-- what the steps offer, with the repeats
abbrev pub by_steps : Question → List Offer
by_steps q = flat_map (step_offers q.meaning) q.steps

abbrev pub StepsHold : Question → CandidateLists → Type 0
StepsHold q lists = Holds q (by_steps q) lists

abbrev pub ScopeHolds : Question → Scope → CandidateLists → Type 0
ScopeHolds q traits lists = Holds q (by_steps q ++ trait_offers traits) lists

-- Nothing is on the lists, and there is memory for 64 candidates on each and for 256 impls.
pub record Fresh (lists : CandidateLists) : Type 0 where
  pub empty : (l : ListName) → contents (list_of l lists) ≡ []
  pub rooms : (l : ListName) → room (list_of l lists) ≡ 64
  pub no_impls : contents lists.impl_dups ≡ []
  pub met_room : room lists.impl_dups ≡ 256

-- The lists hold the candidates of all offers, which fit; or the first offer that is too many refuses.
abbrev pub Assembled : Question → Scope → Result (Unit {0}) Refusal → CandidateLists → Type 0
Assembled q traits (Ok u) lists = ListsHold q (offers q traits) lists × Fits q (offers q traits)
Assembled q traits (Err e) lists = Overfills q (offers q traits) e
