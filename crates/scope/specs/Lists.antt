-- Words on lists.
use Rattle.std.specs.Prelude.{ℕ, not, List, [], ◌∷◌, filter, ◌==◌}
use Rattle.host.specs.Meaning.{◌∈◌}

-- nothing comes twice
abbrev pub Distinct : {X : Type 0} → List X → Type 0
Distinct [] = Unit {0}
Distinct (x ∷ xs) = (x ∈ xs → ⊥) × Distinct xs

-- all but t, in their order
abbrev pub without : ℕ → List ℕ → List ℕ
without t ts = filter (λ u. not (u == t)) ts
