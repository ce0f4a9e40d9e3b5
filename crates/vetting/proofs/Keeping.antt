-- A list with each element once: one more at its end, and what is on it.
use Rattle.std.proofs.Common.{◌≡◌, Bool, true, false, cond, ◌||◌, ◌⊎◌, List, [], ◌∷◌, ◌++◌, sym, refl, ap, ◌∙◌, subst, inl, inr, append-nil}
use Rattle.std.specs.Cmp.{IsEquivalence}
use Rattle.std.specs.List.{flat_map, list_any}
use Rattle.std.proofs.lemmas.Bool.{both_ways}
use Rattle.host.specs.Meaning.{◌∈◌}
use Rattle.vetting.specs.Firsts.{without, firsts, Once, Collected}

-- a test for equal values
pub record Exact {X : Type 0} (same : X → X → Bool) : Type 0 where
  pub tells : (x y : X) → same x y ≡ true → x ≡ y
  pub itself : (x : X) → same x x ≡ true

without-push : {X : Type 0} (same : X → X → Bool) (x : X) (ys : List X) (y : X) → without same x (ys ++ y ∷ []) ≡ without same x ys ++ cond (same x y) [] (y ∷ [])
without-push same x [] y = refl
without-push {X} same x (z ∷ ys) y = step (same x z) (without-push same x ys y)
  where
    step : (b : Bool) → without same x (ys ++ y ∷ []) ≡ without same x ys ++ cond (same x y) [] (y ∷ []) → cond b (without same x (ys ++ y ∷ [])) (z ∷ without same x (ys ++ y ∷ [])) ≡ cond b (without same x ys) (z ∷ without same x ys) ++ cond (same x y) [] (y ∷ [])
    step true e = e
    step false e = ap (λ l. z ∷ l) e

-- one more at the end of a list: it is new where nothing on the list is the same
pub firsts-push : {X : Type 0} {same : X → X → Bool} → IsEquivalence same → (xs : List X) (y : X) → firsts same (xs ++ y ∷ []) ≡ cond (list_any (same y) xs) (firsts same xs) (firsts same xs ++ y ∷ [])
firsts-push laws [] y = refl
firsts-push {X} {same} laws (x ∷ xs) y =
    ap (λ l. x ∷ without same x l) (firsts-push laws xs y) ∙ kept (list_any (same y) xs) (same y x) (laws.symm x y)
  where
    kept : (m s : Bool) → same x y ≡ s → x ∷ without same x (cond m (firsts same xs) (firsts same xs ++ y ∷ [])) ≡ cond (s || m) (x ∷ without same x (firsts same xs)) (x ∷ (without same x (firsts same xs) ++ y ∷ []))
    kept true true e = refl
    kept true false e = refl
    kept false true e = ap (λ l. x ∷ l) (without-push same x (firsts same xs) y ∙ ap (λ t. without same x (firsts same xs) ++ cond t [] (y ∷ [])) e ∙ append-nil (without same x (firsts same xs)))
    kept false false e = ap (λ l. x ∷ l) (without-push same x (firsts same xs) y ∙ ap (λ t. without same x (firsts same xs) ++ cond t [] (y ∷ [])) e)

in_without : {X : Type 0} (same : X → X → Bool) (x : X) (ys : List X) (y : X) → y ∈ without same x ys → (y ∈ ys) × (same x y ≡ false)
in_without same x [] y h = absurd h
in_without {X} same x (z ∷ ys) y h = step (same x z) refl (in_without same x ys y) h
  where
    here : same x z ≡ false → (y ∈ without same x ys → (y ∈ ys) × (same x y ≡ false)) → (y ≡ z) ⊎ (y ∈ without same x ys) → ((y ≡ z) ⊎ (y ∈ ys)) × (same x y ≡ false)
    here e more (inl w) = (inl w, ap (same x) w ∙ e)
    here e more (inr k) = (inr (more k).0, (more k).1)

    step : (b : Bool) → same x z ≡ b → (y ∈ without same x ys → (y ∈ ys) × (same x y ≡ false)) → y ∈ cond b (without same x ys) (z ∷ without same x ys) → ((y ≡ z) ⊎ (y ∈ ys)) × (same x y ≡ false)
    step true e more k = (inr (more k).0, (more k).1)
    step false e more k = here e more k

without_in : {X : Type 0} (same : X → X → Bool) (x : X) (ys : List X) (y : X) → y ∈ ys → same x y ≡ false → y ∈ without same x ys
without_in same x [] y h n = absurd h
without_in {X} same x (z ∷ ys) y h n = step (same x z) refl (λ k. without_in same x ys y k n) h
  where
    step : (b : Bool) → same x z ≡ b → (y ∈ ys → y ∈ without same x ys) → (y ≡ z) ⊎ (y ∈ ys) → y ∈ cond b (without same x ys) (z ∷ without same x ys)
    step true e more (inl w) = absurd (both_ways (same x y) n (ap (same x) w ∙ e))
    step true e more (inr k) = more k
    step false e more (inl w) = inl w
    step false e more (inr k) = inr (more k)

once_without : {X : Type 0} (same : X → X → Bool) (x : X) (ys : List X) → Once ys → Once (without same x ys)
once_without same x [] h = tt
once_without {X} same x (z ∷ ys) h = step (same x z) (once_without same x ys h.1)
  where
    step : (b : Bool) → Once (without same x ys) → Once (cond b (without same x ys) (z ∷ without same x ys))
    step true more = more
    step false more = (λ k. h.0 (in_without same x ys z k).0, more)

once_firsts : {X : Type 0} (same : X → X → Bool) → Exact same → (xs : List X) → Once (firsts same xs)
once_firsts same ex [] = tt
once_firsts same ex (x ∷ xs) = (λ k. both_ways (same x x) (in_without same x (firsts same xs) x k).1 (ex.itself x), once_without same x (firsts same xs) (once_firsts same ex xs))

in_firsts : {X : Type 0} (same : X → X → Bool) (xs : List X) (y : X) → y ∈ firsts same xs → y ∈ xs
in_firsts same [] y h = absurd h
in_firsts same (x ∷ xs) y (inl e) = inl e
in_firsts same (x ∷ xs) y (inr h) = inr (in_firsts same xs y (in_without same x (firsts same xs) y h).0)

firsts_in : {X : Type 0} (same : X → X → Bool) → Exact same → (xs : List X) (y : X) → y ∈ xs → y ∈ firsts same xs
firsts_in same ex [] y h = absurd h
firsts_in same ex (x ∷ xs) y (inl e) = inl e
firsts_in {X} same ex (x ∷ xs) y (inr h) = step (same x y) refl (firsts_in same ex xs y h)
  where
    step : (b : Bool) → same x y ≡ b → y ∈ firsts same xs → (y ≡ x) ⊎ (y ∈ without same x (firsts same xs))
    step true e k = inl (sym (ex.tells x y e))
    step false e k = inr (without_in same x (firsts same xs) y k e)

in_append : {X : Type 0} (xs ys : List X) (y : X) → y ∈ (xs ++ ys) → (y ∈ xs) ⊎ (y ∈ ys)
in_append [] ys y h = inr h
in_append (x ∷ xs) ys y (inl e) = inl (inl e)
in_append {X} (x ∷ xs) ys y (inr h) = step (in_append xs ys y h)
  where
    step : (y ∈ xs) ⊎ (y ∈ ys) → ((y ≡ x) ⊎ (y ∈ xs)) ⊎ (y ∈ ys)
    step (inl k) = inl (inr k)
    step (inr k) = inr k

append_left : {X : Type 0} (xs ys : List X) (y : X) → y ∈ xs → y ∈ (xs ++ ys)
append_left [] ys y h = absurd h
append_left (x ∷ xs) ys y (inl e) = inl e
append_left (x ∷ xs) ys y (inr h) = inr (append_left xs ys y h)

append_right : {X : Type 0} (xs ys : List X) (y : X) → y ∈ ys → y ∈ (xs ++ ys)
append_right [] ys y h = h
append_right (x ∷ xs) ys y h = inr (append_right xs ys y h)

from_flat_map : {X Y : Type 0} (said : X → List Y) (xs : List X) (y : Y) → y ∈ flat_map said xs → (x : X) × (x ∈ xs) × (y ∈ said x)
from_flat_map said [] y h = absurd h
from_flat_map {X} {Y} said (x ∷ xs) y h = step (from_flat_map said xs y) (in_append (said x) (flat_map said xs) y h)
  where
    step : (y ∈ flat_map said xs → (w : X) × (w ∈ xs) × (y ∈ said w)) → (y ∈ said x) ⊎ (y ∈ flat_map said xs) → (w : X) × (w ∈ (x ∷ xs)) × (y ∈ said w)
    step more (inl k) = (x, inl refl, k)
    step more (inr k) = let i = more k in (i.0, inr i.1, i.2)

in_flat_map : {X Y : Type 0} (said : X → List Y) (xs : List X) (y : Y) (x : X) → x ∈ xs → y ∈ said x → y ∈ flat_map said xs
in_flat_map said [] y x h k = absurd h
in_flat_map said (z ∷ xs) y x (inl e) k = append_left (said z) (flat_map said xs) y (subst (λ w. y ∈ said w) e k)
in_flat_map said (z ∷ xs) y x (inr h) k = append_right (said z) (flat_map said xs) y (in_flat_map said xs y x h k)

-- what the elements so far are, in plain terms
pub collected : {X Y : Type 0} (same : Y → Y → Bool) → Exact same → (said : X → List Y) (xs : List X) (ys : List Y) → ys ≡ firsts same (flat_map said xs) → Collected said xs ys
collected same ex said xs ys e =
    subst (λ zs. Collected said xs zs) (sym e) (record {
      once = once_firsts same ex (flat_map said xs);
      sound = λ y h. from_flat_map said xs y (in_firsts same (flat_map said xs) y h);
      complete = λ y x h k. firsts_in same ex (flat_map said xs) y (in_flat_map said xs y x h k);
    })
