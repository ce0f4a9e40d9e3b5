-- Facts on lists, membership and tests.
use Rattle.std.proofs.Common.{◌≡◌, ℕ, ◌≤◌, Bool, true, false, true≢false, cond, eqb, ◌⊎◌, List, [], ◌∷◌, ◌++◌, length, filter, sym, refl, ◌∙◌, subst, inl, inr, ⊎_elim, arith}
use Rattle.method_resolution.specs.Types.{None, Some}
use Rattle.std.specs.List.{AllByRecursion as All, find, list_all, list_any}
use Rattle.std.proofs.lemmas.Bool.{and_parts, and_from, or_cases, or_left, or_right, eqb-true, eq-eqb}
use Rattle.std.proofs.lemmas.List.Elements.{All-append, All-filter, All-from_recursion, recursion_from_All}
use Rattle.std.proofs.lemmas.List.Sums.{length-filter, count_by-le-length}
use Rattle.host.specs.Meaning.{◌∈◌}
use Rattle.method_resolution.specs.Words.{First, NoneOf}

pub filter_shorter : {X : Type 0} (f : X → Bool) (xs : List X) → length (filter f xs) ≤ length xs
filter_shorter f xs = omega (arith, length-filter f xs, count_by-le-length f xs)

pub all_append : {X : Type 0} (P : X → Type 0) (xs ys : List X) → All P xs → All P ys → All P (xs ++ ys)
all_append P xs ys a b = recursion_from_All P _ (All-append P xs ys (All-from_recursion P xs a) (All-from_recursion P ys b))

pub all_filter : {X : Type 0} (p : X → Bool) (P : X → Type 0) (xs : List X) → All P xs → All P (filter p xs)
all_filter p P xs a = recursion_from_All P _ (All-filter p P xs (All-from_recursion P xs a))

pub all_at : {X : Type 0} (P : X → Type 0) (xs : List X) (x : X) → All P xs → x ∈ xs → P x
all_at P [] x a m = absurd m
all_at P (y ∷ ys) x a (inl e) = subst P (sym e) a.0
all_at P (y ∷ ys) x a (inr m) = all_at P ys x a.1 m

-- what holds of each member holds of all
pub all_from_in : {X : Type 0} (P : X → Type 0) (xs : List X) → ((x : X) → x ∈ xs → P x) → All P xs
all_from_in P [] h = tt
all_from_in P (x ∷ xs) h = (h x (inl refl), all_from_in P xs (λ y m. h y (inr m)))

-- tests that decide
module _ {X : Type 0} (P : X → Type 0) (f : X → Bool) where
  pub all_of_says : ((x : X) → f x ≡ true → P x) → (xs : List X) → list_all f xs ≡ true → All P xs
  all_of_says h [] e = tt
  all_of_says h (x ∷ xs) e = (h x (and_parts (f x) (list_all f xs) e).0, all_of_says h xs (and_parts (f x) (list_all f xs) e).1)

  pub all_of_from : ((x : X) → P x → f x ≡ true) → (xs : List X) → All P xs → list_all f xs ≡ true
  all_of_from h [] a = refl
  all_of_from h (x ∷ xs) a = and_from (f x) (list_all f xs) (h x a.0) (all_of_from h xs a.1)

  module _ (says : (x : X) → f x ≡ true → P x) (denies : (x : X) → f x ≡ false → P x → ⊥) where
    pub first_from_find : (xs : List X) (x : X) → find f xs ≡ Some x → First P xs x
    first_from_find [] x e = cc
    first_from_find (y ∷ ys) x e = step (f y) refl (first_from_find ys x) e
      where
        step : (b : Bool) → f y ≡ b → (find f ys ≡ Some x → First P ys x) → cond b (Some y) (find f ys) ≡ Some x → First P (y ∷ ys) x
        step true h rest k = inl (says y h, cc)
        step false h rest k = inr (denies y h, rest k)

    pub none_from_find : (xs : List X) → find f xs ≡ None → NoneOf P xs
    none_from_find [] e = tt
    none_from_find (y ∷ ys) e = step (f y) refl (none_from_find ys) e
      where
        step : (b : Bool) → f y ≡ b → (find f ys ≡ None → NoneOf P ys) → cond b (Some y) (find f ys) ≡ None → NoneOf P (y ∷ ys)
        step true h rest k = cc
        step false h rest k = (denies y h, rest k)

abbrev pub member : ℕ → List ℕ → Bool
member n xs = list_any (eqb n) xs

pub member_says : (n : ℕ) (xs : List ℕ) → member n xs ≡ true → n ∈ xs
member_says n [] e = cc
member_says n (x ∷ xs) e = ⊎_elim (λ h. inl (eqb-true n x h)) (λ h. inr (member_says n xs h)) (or_cases (eqb n x) (member n xs) e)

pub member_from : (n : ℕ) (xs : List ℕ) → n ∈ xs → member n xs ≡ true
member_from n [] m = absurd m
member_from n (x ∷ xs) (inl e) = or_left (eqb n x) (member n xs) (eq-eqb n x e)
member_from n (x ∷ xs) (inr m) = or_right (eqb n x) (member n xs) (member_from n xs m)

-- decided membership
pub member_or_not : (n : ℕ) (xs : List ℕ) → (n ∈ xs) ⊎ (n ∈ xs → ⊥)
member_or_not n xs = step (member n xs) refl
  where
    step : (b : Bool) → member n xs ≡ b → (n ∈ xs) ⊎ (n ∈ xs → ⊥)
    step true e = inl (member_says n xs e)
    step false e = inr (λ m. absurd (true≢false (sym (member_from n xs m) ∙ e)))

-- the first element of which P holds
pub first_holds : {X : Type 0} (P : X → Type 0) (xs : List X) (x : X) → First P xs x → P x
first_holds P [] x h = absurd h
first_holds P (y ∷ ys) x (inl h) = subst P h.1 h.0
first_holds P (y ∷ ys) x (inr h) = first_holds P ys x h.1

pub first_in : {X : Type 0} (P : X → Type 0) (xs : List X) (x : X) → First P xs x → x ∈ xs
first_in P [] x h = absurd h
first_in P (y ∷ ys) x (inl h) = inl (sym h.1)
first_in P (y ∷ ys) x (inr h) = inr (first_in P ys x h.1)

pub first_once : {X : Type 0} (P : X → Type 0) (xs : List X) (x y : X) → First P xs x → First P xs y → x ≡ y
first_once P [] x y h k = absurd h
first_once P (z ∷ zs) x y (inl h) (inl k) = sym h.1 ∙ k.1
first_once P (z ∷ zs) x y (inl h) (inr k) = absurd (k.0 h.0)
first_once P (z ∷ zs) x y (inr h) (inl k) = absurd (h.0 k.0)
first_once P (z ∷ zs) x y (inr h) (inr k) = first_once P zs x y h.1 k.1

pub first_not_none : {X : Type 0} (P : X → Type 0) (xs : List X) (x : X) → First P xs x → NoneOf P xs → ⊥
first_not_none P [] x h n = h
first_not_none P (z ∷ zs) x (inl h) n = n.0 h.0
first_not_none P (z ∷ zs) x (inr h) n = first_not_none P zs x h.1 n.1
