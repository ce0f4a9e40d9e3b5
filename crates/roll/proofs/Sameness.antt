use Rattle.std.proofs.Common.{◌≡◌, Bool, true, List, Decides, refl}
use Rattle.std.proofs.lemmas.Bool.Decides.{Decides-by_or, same_from_decides}
use Rattle.roll.specs.Equality.{Among, on}

-- the computed answer decides whether such an element is there
pub on_decides : {T : Type 0} (same : T → T → Bool) (xs : List T) (x : T) → Decides (on same xs x) (Among same xs x)
on_decides same xs x =
    Decides-by_or (λ y. same y x) (λ y. same y x ≡ true) (λ ys. on same ys x) (λ y. (λ h. h, λ h. h)) refl (λ _ _. refl) xs

-- what `has` says, as the computed answer
pub on_from_has : {T : Type 0} (same : T → T → Bool) (xs : List T) (x : T) (r : Bool) → Decides r (Among same xs x) → r ≡ on same xs x
on_from_has same xs x r h = same_from_decides r (on same xs x) h (on_decides same xs x)
