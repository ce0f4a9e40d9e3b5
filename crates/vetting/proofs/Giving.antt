-- What a chain of iterators gives, and a list that keeps each element of it once.
use Rattle.std.proofs.Common.{◌≡◌, Bool, false, List, [], ◌∷◌, ◌++◌, Option, Some, None, Ok, Err, Result, Vec, vec_items, IfOk, refl, sym, ap, ◌∙◌, subst, map-id}
use Rattle.std.specs.Iterator.{Drains}
use Rattle.std.specs.Iterator.Adapters.{chain_first, chain_second, chain_first_done, chain_second_done, chain_steps, once_item, once_steps}
use Rattle.std.specs.List.{cons_option, filter_map, flat_map}
use Rattle.std.specs.Option.{option_to_list}
use Rattle.std.specs.declared.iter.Chain.{Chain}
use Rattle.std.specs.declared.iter.Once.{Once}
use Rattle.std.proofs.lemmas.Iterator.{YieldsList, items_from_drains}
use Rattle.std.proofs.lemmas.Iterator.Adapters.{YieldsList-from_once}
use Rattle.std.proofs.lemmas.Iterator.Consumers.{YieldsList-from_chain}
use Rattle.vetting.specs.Firsts.{firsts, Collected}
use Rattle.vetting.proofs.Keeping.{Exact, collected}

-- what two options give, one behind the other
pub two_options : {A : Type 0} (u j : Chain (Once A) (Once A)) (all : List A) → j ≡ u → chain_first_done u ≡ false → chain_second_done u ≡ false → option_to_list (once_item (chain_first u)) ++ option_to_list (once_item (chain_second u)) ≡ all → YieldsList (chain_steps once_steps once_steps) (λ y. y) j all
two_options {A} u j all same first second is =
    subst (λ (ys : List A). YieldsList (chain_steps once_steps once_steps) (λ y. y) j ys) is (YieldsList-from_chain (YieldsList-from_once _ (ap (λ w. once_item (chain_first w)) same)) (YieldsList-from_once _ (ap (λ w. once_item (chain_second w)) same)) (ap chain_first_done same ∙ first) (ap chain_second_done same ∙ second))

-- elements that are there, as lists of at most one
pub some_as_list : {X Y : Type 0} (f : X → Option Y) (xs : List X) → filter_map f xs ≡ flat_map (λ x. option_to_list (f x)) xs
some_as_list f [] = refl
some_as_list {X} {Y} f (x ∷ xs) = step (f x) (some_as_list f xs)
  where
    step : (o : Option Y) → filter_map f xs ≡ flat_map (λ x. option_to_list (f x)) xs → cons_option o (filter_map f xs) ≡ option_to_list o ++ flat_map (λ x. option_to_list (f x)) xs
    step None e = e
    step (Some y) e = ap (λ ys. y ∷ ys) e

-- a list that keeps each element that an iterator gives once, where the iterator gives what is said of the elements of xs
pub gathered : {S X Y Z E : Type 0} {steps : S → Option Y → S → Type 0} {s : S} (given same : Y → Y → Bool) → ((x y : Y) → given x y ≡ same x y) → Exact same → (said : X → List Y) (xs : List X) {all : List Y} (r : Result (Vec Y Z) E) → YieldsList steps (λ y. y) s all → all ≡ flat_map said xs → IfOk r (λ v. (ys : List Y) × Drains steps s ys × (vec_items v ≡ firsts given ys)) → IfOk r (λ v. vec_items v ≡ firsts same (flat_map said xs)) × IfOk r (λ v. Collected said xs (vec_items v))
gathered given same alike ex said xs (Ok v) gives whole (ys, drains, is) =
    let all : ys ≡ flat_map said xs = sym (map-id ys) ∙ items_from_drains ys (drains.1.0, drains.1.1, λ _. (drains.0, drains.1.2)) gives ∙ whole in
    let one : given ≡ same = λ i x y. alike x y i in
    let order : vec_items v ≡ firsts same (flat_map said xs) = is ∙ ap (λ e. firsts e ys) one ∙ ap (firsts same) all in
    (order, collected same ex said xs (vec_items v) order)
gathered given same alike ex said xs (Err e) gives whole h = (tt, tt)
