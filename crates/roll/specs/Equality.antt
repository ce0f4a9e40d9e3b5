use Rattle.std.specs.Prelude.{◌≡◌, ℕ, ◌<◌, Bool, true, false, ◌||◌, List, [], ◌∷◌, length}
use Rattle.std.specs.List.{HoldsAt}

-- at some place of the list stands an element that is the same as x
abbrev pub Among : {T : Type 0} → (T → T → Bool) → List T → T → Type 0
Among same xs x = (k : ℕ) × (k < length xs) × HoldsAt (λ y. same y x ≡ true) xs k

-- the same, computed
abbrev pub on : {T : Type 0} → (T → T → Bool) → List T → T → Bool
on same [] x = false
on same (y ∷ ys) x = same y x || on same ys x
