-- What a list decides at a place, from its candidates that apply there.
use Rattle.std.specs.Prelude.{◌≡◌, ℕ, ◌<◌, true, not, List, [], ◌∷◌, map, length, filter}
use Rattle.std.specs.List.{AllByRecursion}
use Rattle.host.specs.Identity.{same_item}
use Rattle.host.specs.Meaning.{supers_of, ◌∈◌}
use Rattle.host.specs.declared.forms.ContainerKind.TheVariants.{Trait}
use Rattle.method_resolution.specs.declared.CandidateSource.TheVariants as source
use Rattle.method_resolution.specs.Types.{Candidate, CandidateKind, CandidateSource, InherentImplCandidate, InherentImplPick, ItemId, None, ObjectCandidate, ObjectPick, Option, Pick, PickKind, Place, Some, TraitCandidate, TraitPick, WhereClauseCandidate, WhereClausePick}
use Rattle.method_resolution.specs.Questions.{Question}

abbrev pub pick_kind : CandidateKind → ℕ → PickKind
pick_kind (InherentImplCandidate steps) container = InherentImplPick container
pick_kind (ObjectCandidate origin) container = ObjectPick container
pick_kind TraitCandidate container = TraitPick container
pick_kind (WhereClauseCandidate origin) container = WhereClausePick container origin

abbrev pub receiver_steps : CandidateKind → Option ℕ
receiver_steps (InherentImplCandidate steps) = Some steps
receiver_steps (ObjectCandidate origin) = None
receiver_steps TraitCandidate = None
receiver_steps (WhereClauseCandidate origin) = None

-- a pick of this item at this place, not adjusted yet
abbrev pub picked : Place → ItemId → PickKind → Option ℕ → Pick
picked p item kind steps = record { item = item; kind = kind; autoderefs = 0; autoref_or_ptr_adjustment = None; self_ty = record { ty = p.step.self_ty; wrap = p.wrap }; receiver_steps = steps }

abbrev pub pick_of : Place → Candidate → Pick
pick_of p c = picked p c.item (pick_kind c.kind c.item.container) (receiver_steps c.kind)

abbrev pub trait_pick_of : Place → ItemId → Pick
trait_pick_of p item = picked p item (TraitPick item.container) None

abbrev pub impl_or_trait : Option ℕ → ℕ → CandidateSource
impl_or_trait None tr = source.Trait tr
impl_or_trait (Some i) tr = source.Impl i

-- An impl's source is itself. A trait candidate's is the impl that the host names, or else its trait. Any other's is its trait.
abbrev pub source_by_kind : CandidateKind → ℕ → Option ℕ → CandidateSource
source_by_kind (InherentImplCandidate steps) container named = source.Impl container
source_by_kind (ObjectCandidate origin) container named = source.Trait container
source_by_kind TraitCandidate container named = impl_or_trait named container
source_by_kind (WhereClauseCandidate origin) container named = source.Trait container

abbrev pub source_of : Question → Place → Candidate → CandidateSource
source_of q p c = source_by_kind c.kind c.item.container (q.meaning.source c.item.container c.item.place p.step.self_ty p.wrap q.mode)

abbrev pub OfTrait : ℕ → Candidate → Type 0
OfTrait tr c = (c.item.kind ≡ Trait) × (c.item.container ≡ tr)

abbrev pub OfOneTrait : List Candidate → Type 0
OfOneTrait cs = (tr : ℕ) × AllByRecursion (OfTrait tr) cs

-- all are of traits among the supers of a trait
abbrev pub AmongSupers : Question → ℕ → List Candidate → Type 0
AmongSupers q tr cs = AllByRecursion (λ d. (d.item.kind ≡ Trait) × (d.item.container ∈ supers_of q.meaning tr)) cs

-- one of the candidates is of a subtrait of all the others' traits
abbrev pub HasSubtrait : Question → List Candidate → Type 0
HasSubtrait q cs = (c : Candidate) × ((c ∈ cs) × AmongSupers q c.item.container cs)

abbrev pub Shadowing : Question → Type 0
Shadowing q = q.settings.supertrait_item_shadowing ≡ true

-- each candidate's item that differs from the given one, repeats kept
abbrev pub shadowed_by : ItemId → List Candidate → List ItemId
shadowed_by item cs = map (λ (c : Candidate). c.item) (filter (λ (c : Candidate). not (same_item item c.item)) cs)

-- nothing, a pick with the items that it shadows, or the sources of an ambiguity
pub data Decision : Type 0 where
  nothing : Decision
  pick : Pick → List ItemId → Decision
  ambiguity : List CandidateSource → Decision

-- None decides nothing, and a sole one is picked. Several of one trait give its item. Otherwise, with shadowing on, the one
-- with all others in its supers is picked, and the others' items are shadowed. Else the sources are ambiguous.
pub data Judged (q : Question) (p : Place) (cs : List Candidate) : Decision → Type 0 where
  none : cs ≡ [] → Judged q p cs nothing
  sole : (c : Candidate) → cs ≡ c ∷ [] → Judged q p cs (pick (pick_of p c) [])
  one_trait : (c : Candidate) → 1 < length cs → OfOneTrait cs → c ∈ cs → Judged q p cs (pick (trait_pick_of p c.item) [])
  subtrait : (c : Candidate) → 1 < length cs → (OfOneTrait cs → ⊥) → Shadowing q → c ∈ cs → AmongSupers q c.item.container cs
      → Judged q p cs (pick (trait_pick_of p c.item) (shadowed_by c.item cs))
  several : 1 < length cs → (OfOneTrait cs → ⊥) → (Shadowing q → HasSubtrait q cs → ⊥) → Judged q p cs (ambiguity (map (source_of q p) cs))
