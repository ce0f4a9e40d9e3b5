-- What a host means: all of its answers.
use Rattle.std.specs.Prelude.{◌≡◌, ℕ, zero, suc, ◌+◌, Bool, ◌⊎◌, List, [], ◌∷◌, Some, None, Option}
use Rattle.host.specs.declared.forms.ContainerKind.{ContainerKind}
use Rattle.host.specs.declared.forms.CandidateClass.{CandidateClass}
use Rattle.host.specs.declared.forms.Item.{Item}
use Rattle.host.specs.declared.forms.TypeForm.{TypeForm}
use Rattle.host.specs.declared.forms.Wrap.{Wrap}
use Rattle.host.specs.declared.forms.Mode.{Mode}

-- the answers to the ten questions; a list is asked by place, from 0
pub record Meaning : Type 0 where
  pub form : ℕ → TypeForm
  pub own : ℕ → ℕ → Option ℕ
  pub stray : ℕ → ℕ → Option ℕ
  pub item : ContainerKind → ℕ → ℕ → Option Item
  pub bound : ℕ → ℕ → Option ℕ
  pub supers : ℕ → ℕ → Option ℕ
  pub visible : ContainerKind → ℕ → ℕ → Bool
  pub skips : ℕ → Bool × Bool
  pub applies : CandidateClass → ℕ → ℕ → ℕ → ℕ → Wrap → Mode → Bool
  pub source : ℕ → ℕ → ℕ → Wrap → Mode → Option ℕ

-- an answer in front of those that come behind it; an absent one ends the list
abbrev pub joined : {X : Type 0} → Option X → List X → List X
joined None xs = []
joined (Some x) xs = x ∷ xs

-- the entries from place p on, at most n of them
unfoldable pub listed_from : {X : Type 0} → (ℕ → Option X) → ℕ → ℕ → List X
listed_from f p zero = []
listed_from f p (suc n) = joined (f p) (listed_from f (p + 1) n)

-- the whole list behind a list question
abbrev pub listed : {X : Type 0} → (ℕ → Option X) → List X
listed f = listed_from f 0 64

-- membership
infixl 50 ◌∈◌
abbrev pub ◌∈◌ : {X : Type 0} → X → List X → Type 0
x ∈ [] = ⊥
x ∈ (y ∷ ys) = (x ≡ y) ⊎ (x ∈ ys)

-- a trait's supers, in their order
abbrev pub supers_of : Meaning → ℕ → List ℕ
supers_of m t = listed (m.supers t)
