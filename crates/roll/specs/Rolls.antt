use Rattle.std.specs.Prelude.{◌≡◌, ℕ, ◌<◌, ◌≤◌, List, [], ◌∷◌, ◌++◌, length, take, drop, Some, None, Ok, Err, Option, Result}
use Rattle.std.specs.Borrow.{Bor}
use Rattle.std.specs.List.{HoldsAt}
use Rattle.roll.specs.declared.shape.Full.{Full}
use Rattle.roll.specs.declared.shape.Roll.{Roll}

-- what is on the roll, in order
unfoldable pub contents : {T : Type 0} → Roll T → List T
contents r = take r.len r.items.now

-- what the memory holds behind the contents
unfoldable pub beyond : {T : Type 0} → Roll T → List T
beyond r = drop r.len r.items.now

-- done: x is the new last element, and takes the place of the first element behind
-- refused: nothing lies behind, and nothing has changed
abbrev pub Pushed : {T : Type 0} → Roll T → T → Result (Unit {0}) Full → Roll T → Type 0
Pushed before x (Ok u) after =
    (0 < length (beyond before)) × (contents after ≡ contents before ++ (x ∷ [])) × (beyond after ≡ drop 1 (beyond before))
Pushed before x (Err e) after =
    (length (beyond before) ≡ 0) × (contents after ≡ contents before) × (beyond after ≡ beyond before)

-- the element at the place, and none exactly past the end
abbrev pub ReadAt : {T : Type 0} → List T → ℕ → Option (Bor T) → Type 0
ReadAt xs place (Some y) = (place < length xs) × HoldsAt (λ z. z ≡ y.now) xs place
ReadAt xs place None = length xs ≤ place
