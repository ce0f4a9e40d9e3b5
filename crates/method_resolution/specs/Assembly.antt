-- The candidates that the offers give, the lists that they go on, and when there are too many.
use Rattle.std.specs.Prelude.{◌≡◌, ℕ, ◌+◌, ◌<◌, ◌≤◌, Bool, true, false, cond, not, ◌&&◌, List, [], ◌∷◌, ◌++◌, length, filter, ◌==◌, flat_map}
use Rattle.host.specs.Meaning.{listed}
use Rattle.host.specs.declared.forms.ContainerKind.TheVariants.{Impl, Trait}
use Rattle.method_resolution.specs.Types.{Alias, Candidate, CandidateKind, Const, ContainerKind, Function, InherentImplCandidate, Item, MethodCall, Mode, None, ObjectCandidate, Option, Path, Refusal, Some, Sort, TooManyCandidates, TooManyImpls, TraitCandidate, WhereClauseCandidate}
use Rattle.method_resolution.specs.Questions.{Question}
use Rattle.method_resolution.specs.Offers.{Offer, is_impl}

abbrev pub unless_alias : Sort → Bool → Bool
unless_alias Function b = b
unless_alias Const b = b
unless_alias Alias b = false

-- an item of the name that is no alias
abbrev pub has_name : ℕ → Item → Bool
has_name name item = unless_alias item.sort (item.name == name)

abbrev pub if_function : Sort → Bool → Bool
if_function Function b = b
if_function Const b = false
if_function Alias b = false

-- In method call mode the item must be a function with self.
abbrev pub serves : Mode → Item → Bool
serves MethodCall item = if_function item.sort item.has_self
serves Path item = true

-- The first item of the name decides, whether it serves or not. The items stand from place p on.
abbrev pub first_named : ℕ → Mode → ℕ → List Item → Option ℕ
first_named name mode p [] = None
first_named name mode p (i ∷ is) = cond (has_name name i) (cond (serves mode i) (Some p) None) (first_named name mode (p + 1) is)

-- the place of the item that a container offers
unfoldable pub offered_place : Question → ContainerKind → ℕ → Option ℕ
offered_place q kind container = first_named q.name q.mode 0 (listed (q.meaning.item kind container))

abbrev pub container_kind : CandidateKind → ContainerKind
container_kind (InherentImplCandidate steps) = Impl
container_kind (ObjectCandidate origin) = Trait
container_kind TraitCandidate = Trait
container_kind (WhereClauseCandidate origin) = Trait

abbrev pub candidate_at : Offer → Option ℕ → List Candidate
candidate_at o None = []
candidate_at o (Some p) = record { item = record { kind = container_kind o.kind; container = o.container; place = p }; kind = o.kind } ∷ []

-- an offer's candidate, if its container has the item
abbrev pub candidate_of : Question → Offer → List Candidate
candidate_of q o = candidate_at o (offered_place q (container_kind o.kind) o.container)

pub data ListName : Type 0 where
  inherent : ListName
  extension : ListName
  private : ListName

abbrev pub is_trait_candidate : CandidateKind → Bool
is_trait_candidate (InherentImplCandidate steps) = false
is_trait_candidate (ObjectCandidate origin) = false
is_trait_candidate TraitCandidate = true
is_trait_candidate (WhereClauseCandidate origin) = false

abbrev pub is_visible : Question → Candidate → Bool
is_visible q c = q.meaning.visible c.item.kind c.item.container c.item.place

-- What the traits in scope offer goes on the extension list, visible or not. The rest goes on the inherent list if it is
-- visible, else on the private list.
abbrev pub goes_on : Question → ListName → Candidate → Bool
goes_on q inherent c = not (is_trait_candidate c.kind) && is_visible q c
goes_on q private c = not (is_trait_candidate c.kind) && not (is_visible q c)
goes_on q extension c = is_trait_candidate c.kind

-- the candidates of some offers that go on a list, in the order of the offers
unfoldable pub candidates_on : Question → ListName → List Offer → List Candidate
candidates_on q list os = filter (goes_on q list) (flat_map (candidate_of q) os)

unfoldable pub impls_met : List Offer → ℕ
impls_met os = length (filter (λ o. is_impl o.kind) os)

-- No list passes 64 candidates, and no more than 256 impls are met, with the name or without.
pub record Fits (q : Question) (os : List Offer) : Type 0 where
  pub impls : impls_met os ≤ 256
  pub candidates : (list : ListName) → length (candidates_on q list os) ≤ 64

-- The impls are counted before the candidates.
pub data Overfull (q : Question) (os : List Offer) : Refusal → Type 0 where
  impls : 256 < impls_met os → Overfull q os TooManyImpls
  candidates : impls_met os ≤ 256 → (list : ListName) → 64 < length (candidates_on q list os) → Overfull q os TooManyCandidates

-- The first offer with which a limit is passed says the refusal.
pub record Overfills (q : Question) (os : List Offer) (refusal : Refusal) : Type 0 where
  pub before : List Offer
  pub next : Offer
  pub after : List Offer
  pub are : os ≡ before ++ next ∷ after
  pub fits : Fits q before
  pub full : Overfull q (before ++ next ∷ []) refusal
