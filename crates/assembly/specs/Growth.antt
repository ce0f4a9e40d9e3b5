-- How the lists stand while they are made.
use Rattle.std.specs.Prelude.{◌≡◌, ℕ, ◌+◌, ◌<◌, ◌≤◌, true, List, [], ◌∷◌, ◌++◌, map, length, filter}
use Rattle.roll.specs.Rolls.{contents, beyond}
use Rattle.roll.specs.declared.shape.Roll.{Roll}
use Rattle.method_resolution.specs.Types.{ContainerKind, ItemId, Err, Ok, Refusal, Result, TooManyCandidates}
use Rattle.method_resolution.specs.declared.Candidate.{Candidate}
use Rattle.method_resolution.specs.declared.CandidateKind.{CandidateKind}
use Rattle.method_resolution.specs.declared.CandidateKind.TheVariants.{InherentImplCandidate}
use Rattle.method_resolution.specs.Questions.{Question}
use Rattle.method_resolution.specs.Offers.{Offer, once, is_impl}
use Rattle.method_resolution.specs.Assembly.{ListName, inherent, extension, private, goes_on, candidates_on, Fits, Overfills}
use Rattle.assembly.specs.declared.lists.CandidateLists.{CandidateLists}

-- how many elements a roll's memory holds
abbrev pub room : {X : Type 0} → Roll X → ℕ
room r = length (contents r) + length (beyond r)

-- one more on a list, or no where it is full
abbrev pub OneMore : Roll Candidate → Candidate → Result (Unit {0}) Refusal → Roll Candidate → Type 0
OneMore before c (Ok u) after = (contents after ≡ contents before ++ c ∷ []) × (room after ≡ room before)
OneMore before c (Err e) after = (room before ≤ length (contents before)) × (e ≡ TooManyCandidates)

abbrev pub list_of : ListName → CandidateLists → Roll Candidate
list_of inherent lists = lists.inherent_candidates
list_of extension lists = lists.extension_candidates
list_of private lists = lists.private_candidates

-- Each list has grown by what goes on it, or the one that it goes on is full; the impls met stay.
abbrev pub Filed : Question → Candidate → CandidateLists → Result (Unit {0}) Refusal → CandidateLists → Type 0
Filed q c before (Ok u) after =
    ((l : ListName) → (contents (list_of l after) ≡ contents (list_of l before) ++ filter (goes_on q l) (c ∷ [])) × (room (list_of l after) ≡ room (list_of l before)))
    × (after.impl_dups ≡ before.impl_dups)
Filed q c before (Err e) after = (e ≡ TooManyCandidates) × ((l : ListName) × ((goes_on q l c ≡ true) × (room (list_of l before) ≤ length (contents (list_of l before)))))

-- the lists hold the candidates of these offers
pub record ListsHold (q : Question) (os : List Offer) (lists : CandidateLists) : Type 0 where
  pub items : (l : ListName) → contents (list_of l lists) ≡ candidates_on q l os
  pub rooms : (l : ListName) → room (list_of l lists) ≡ 64

-- so do they with one offer more, or a list would pass 64; the impls met stay
abbrev pub Added : Question → List Offer → Offer → Roll ℕ → Result (Unit {0}) Refusal → CandidateLists → Type 0
Added q os o met (Ok u) after = ListsHold q (os ++ o ∷ []) after × (after.impl_dups ≡ met)
Added q os o met (Err e) after = (e ≡ TooManyCandidates) × ((l : ListName) × (64 < length (candidates_on q l (os ++ o ∷ []))))

abbrev pub item_at : ContainerKind → ℕ → ℕ → ItemId
item_at kind container place = record { kind = kind; container = container; place = place }

-- the offer of a container, found in some way
abbrev pub offer_of : CandidateKind → ℕ → Offer
offer_of kind container = record { container = container; kind = kind }

abbrev pub impl_offer : ℕ → ℕ → Offer
impl_offer i steps = offer_of (InherentImplCandidate steps) i

abbrev pub impl_numbers : List Offer → List ℕ
impl_numbers os = map (λ (o : Offer). o.container) (filter (λ (o : Offer). is_impl o.kind) os)

-- lists and impls met, after these offers with their repeats
pub record Holds (q : Question) (offered : List Offer) (lists : CandidateLists) : Type 0 where
  pub candidates : ListsHold q (once offered) lists
  pub met : contents lists.impl_dups ≡ impl_numbers (once offered)
  pub met_room : room lists.impl_dups ≡ 256
  pub fits : Fits q (once offered)

-- the lists hold these offers, or the first that is too many refuses
abbrev pub Grown : Question → List Offer → Result (Unit {0}) Refusal → CandidateLists → Type 0
Grown q offered (Ok u) lists = Holds q offered lists
Grown q offered (Err e) lists = Overfills q (once offered) e

-- Whatever the lists held, they hold these offers as well, or the first that is too many refuses.
abbrev pub Grows : Question → CandidateLists → List Offer → Result (Unit {0}) Refusal → CandidateLists → Type 0
Grows q before more r after = (offered : List Offer) → Holds q offered before → Grown q (offered ++ more) r after
