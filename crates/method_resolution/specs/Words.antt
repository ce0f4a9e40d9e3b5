-- Words on lists that the other files use.
use Rattle.std.specs.Prelude.{◌≡◌, ◌⊎◌, List, [], ◌∷◌}
use Rattle.std.specs.List.{AllByRecursion}

-- y is the first element of which P holds
abbrev pub First : {X : Type 0} → (X → Type 0) → List X → X → Type 0
First P [] y = ⊥
First P (x ∷ xs) y = (P x × (x ≡ y)) ⊎ ((P x → ⊥) × First P xs y)

-- P holds of no element
abbrev pub NoneOf : {X : Type 0} → (X → Type 0) → List X → Type 0
NoneOf P xs = AllByRecursion (λ x. P x → ⊥) xs
