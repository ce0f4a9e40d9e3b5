-- Membership and distinctness.
use Rattle.std.proofs.Common.{◌≡◌, ℕ, Bool, true, false, cond, not, eqb, ◌⊎◌, List, [], ◌∷◌, ◌++◌, filter, sym, refl, ap, ◌∙◌, inl, inr, ⊎_elim}
use Rattle.std.proofs.lemmas.Bool.{cond_both, cond-true, eq-eqb, ne_eqb, not-true, both_ways}
use Rattle.host.specs.Meaning.{◌∈◌}
use Rattle.scope.specs.Lists.{Distinct, without}

-- one more at the end
pub in_push : {X : Type 0} (xs : List X) (x y : X) → x ∈ xs ++ (y ∷ []) → (x ∈ xs) ⊎ (x ≡ y)
in_push [] x y (inl e) = inr e
in_push [] x y (inr m) = absurd m
in_push (z ∷ zs) x y (inl e) = inl (inl e)
in_push (z ∷ zs) x y (inr m) = ⊎_elim (λ (h : x ∈ zs). inl (inr h)) (λ (e : x ≡ y). inr e) (in_push zs x y m)

pub distinct_push : {X : Type 0} (xs : List X) (y : X) → Distinct xs → (y ∈ xs → ⊥) → Distinct (xs ++ (y ∷ []))
distinct_push [] y d n = ((λ m. m), tt)
distinct_push (x ∷ xs) y d n =
    ((λ m. ⊎_elim d.0 (λ (e : x ≡ y). n (inl (sym e))) (in_push xs x y m)), distinct_push xs y d.1 (λ m. n (inr m)))

-- some taken out
pub in_filter : {X : Type 0} (p : X → Bool) (xs : List X) (x : X) → x ∈ filter p xs → (x ∈ xs) × (p x ≡ true)
in_filter p [] x m = absurd m
in_filter p (y ∷ ys) x m = step (p y) refl m (in_filter p ys x)
  where
    step : (b : Bool) → p y ≡ b → x ∈ cond b (y ∷ filter p ys) (filter p ys) → (x ∈ filter p ys → (x ∈ ys) × (p x ≡ true)) → (x ∈ (y ∷ ys)) × (p x ≡ true)
    step true h (inl e) rest = (inl e, ap p e ∙ h)
    step true h (inr m) rest = (inr (rest m).0, (rest m).1)
    step false h m rest = (inr (rest m).0, (rest m).1)

pub distinct_filter : {X : Type 0} (p : X → Bool) (xs : List X) → Distinct xs → Distinct (filter p xs)
distinct_filter p [] d = d
distinct_filter p (x ∷ xs) d =
    let rest = distinct_filter p xs d.1 in
    cond_both (p x) (x ∷ filter p xs) (filter p xs) Distinct (λ _. ((λ m. d.0 (in_filter p xs x m).0), rest)) (λ _. rest)

pub in_without : (t : ℕ) (ts : List ℕ) → t ∈ without t ts → ⊥
in_without t ts m = both_ways _ (not-true _ (in_filter (λ u. not (eqb u t)) ts t m).1) (eq-eqb t t refl)

pub without_absent : (t : ℕ) (ts : List ℕ) → (t ∈ ts → ⊥) → without t ts ≡ ts
without_absent t [] n = refl
without_absent t (u ∷ us) n =
    cond-true _ _ _ (ap not (ne_eqb u t (λ e. n (inl (sym e))))) ∙ ap (λ l. u ∷ l) (without_absent t us (λ m. n (inr m)))
