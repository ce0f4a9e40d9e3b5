-- Lists with each element once, where it first comes.
use Rattle.std.specs.Prelude.{Bool, cond, List, [], ◌∷◌}
use Rattle.host.specs.Meaning.{◌∈◌}

-- a list without what is the same as x
abbrev pub without : {X : Type 0} → (X → X → Bool) → X → List X → List X
without same x [] = []
without same x (y ∷ ys) = cond (same x y) (without same x ys) (y ∷ without same x ys)

-- of elements that are the same, the first alone
abbrev pub firsts : {X : Type 0} → (X → X → Bool) → List X → List X
firsts same [] = []
firsts same (x ∷ xs) = x ∷ without same x (firsts same xs)

-- no element stands twice
abbrev pub Once : {X : Type 0} → List X → Type 0
Once [] = Unit {0}
Once (x ∷ xs) = (x ∈ xs → ⊥) × Once xs

-- Each element once, and exactly the elements that are said of one of xs.
pub record Collected {X Y : Type 0} (said : X → List Y) (xs : List X) (ys : List Y) : Type 0 where
  pub once : Once ys
  pub sound : (y : Y) → y ∈ ys → (x : X) × (x ∈ xs) × (y ∈ said x)
  pub complete : (y : Y) (x : X) → x ∈ xs → y ∈ said x → y ∈ ys
