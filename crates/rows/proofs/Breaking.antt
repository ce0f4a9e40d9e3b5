-- What the search for a breach tells of the supertrait law.
use Rattle.std.proofs.Common.{◌≡◌, ℕ, zero, suc, MatchOption, arith, ◌+◌, ◌<◌, Bool, true, false, MatchBool, cond, not, ◌&&◌, eqb, ◌⊎◌, List, [], ◌∷◌, length, get_or, option_map, is_some, Some, None, Option, sym, refl, ap, ◌∙◌, subst, inl, inr}
use Rattle.std.proofs.lemmas.Bool.{cases_Bool, eq-eqb, eqb-true, or_cases, or_left, or_right, and_parts, and_from, not-true, not_from_false, both_ways}
use Rattle.std.proofs.lemmas.Option.{none-some, same_Some}
use Rattle.roll.specs.Equality.{on}
use Rattle.host.specs.Meaning.{Meaning, ◌∈◌, supers_of, listed_from, joined}
use Rattle.host.specs.Law.{SupersLawful}
use Rattle.std.specs.Option.{option_or}
use Rattle.rows.specs.Breaches.{Tells, first_some, beginning, missing, entry_breach, breach_of}
use Rattle.rows.specs.declared.laws.Breach.{Breach}
use Rattle.rows.specs.declared.laws.Breach.TheVariants.{NotItself, Missing, Mutual}

-- the first answer, by its place
first_at : {Y : Type 0} (f : ℕ → Option Y) (xs : List ℕ) (y : Y) (i : ℕ) → i < length xs → f (get_or xs i 0) ≡ Some y → ((k : ℕ) → k < i → f (get_or xs k 0) ≡ None) → Some y ≡ first_some f xs
first_at f [] y i h e n = absurd (omega arith)
first_at f (x ∷ xs) y zero h e n = sym (ap (λ o. option_or o (first_some f xs)) e)
first_at f (x ∷ xs) y (suc i) h e n = first_at f xs y i (omega arith) e (λ k l. n (suc k) (omega arith)) ∙ sym (ap (λ o. option_or o (first_some f xs)) (n 0 (omega arith)))

first_none : {Y : Type 0} (f : ℕ → Option Y) (xs : List ℕ) → ((k : ℕ) → k < length xs → f (get_or xs k 0) ≡ None) → None ≡ first_some f xs
first_none f [] n = refl
first_none f (x ∷ xs) n = first_none f xs (λ k l. n (suc k) (omega arith)) ∙ sym (ap (λ o. option_or o (first_some f xs)) (n 0 (omega arith)))

pub first_found : {Y : Type 0} (f : ℕ → Option Y) (xs : List ℕ) (r : Option Y) → MatchOption r ((k : ℕ) → k < length xs → f (get_or xs k 0) ≡ None) (λ y. (i : ℕ) × (i < length xs) × (f (get_or xs i 0) ≡ Some y) × ((k : ℕ) → k < i → f (get_or xs k 0) ≡ None)) → r ≡ first_some f xs
first_found f xs None n = first_none f xs n
first_found f xs (Some y) h = first_at f xs y h.0 h.1 h.2 h.3

-- the first trait above an entry that is not among the supers, as the breach that it is
pub missing_found : (supers : List ℕ) (u : ℕ) (above : List ℕ) (r : Option ℕ) → MatchOption r ((k : ℕ) → k < length above → on eqb supers (get_or above k 0) ≡ true) (λ v. (i : ℕ) × (i < length above) × (get_or above i 0 ≡ v) × (on eqb supers v ≡ false) × ((k : ℕ) → k < i → on eqb supers (get_or above k 0) ≡ true)) → option_map (Missing u) r ≡ first_some (missing supers u) above
missing_found supers u above None n = first_none (missing supers u) above (λ k l. ap (λ b. cond b None (Some (Missing u (get_or above k 0)))) (n k l))
missing_found supers u above (Some v) h = first_at (missing supers u) above (Missing u v) h.0 h.1 (ap (missing supers u) h.2 ∙ ap (λ b. cond b None (Some (Missing u v))) h.3) (λ k l. ap (λ b. cond b None (Some (Missing u (get_or above k 0)))) (h.4 k l))

-- membership and its test
pub on_from_in : (xs : List ℕ) (x : ℕ) → x ∈ xs → on eqb xs x ≡ true
on_from_in [] x h = absurd h
on_from_in (y ∷ ys) x (inl e) = or_left (eqb y x) (on eqb ys x) (eq-eqb y x (sym e))
on_from_in (y ∷ ys) x (inr h) = or_right (eqb y x) (on eqb ys x) (on_from_in ys x h)

pub in_from_on : (xs : List ℕ) (x : ℕ) → on eqb xs x ≡ true → x ∈ xs
in_from_on [] x e = absurd (both_ways true (sym e) refl)
in_from_on (y ∷ ys) x e = step (or_cases (eqb y x) (on eqb ys x) e) (in_from_on ys x)
  where
    step : (eqb y x ≡ true) ⊎ (on eqb ys x ≡ true) → (on eqb ys x ≡ true → x ∈ ys) → x ∈ (y ∷ ys)
    step (inl h) k = inl (sym (eqb-true y x h))
    step (inr h) k = inr (k h)

pub record Found {X Y : Type 0} (f : X → Option Y) (xs : List X) (r : Option Y) : Type 0 where
  pub where' : X
  pub among : where' ∈ xs
  pub is : f where' ≡ r

first_cases : {X Y : Type 0} (f : X → Option Y) (xs : List X) → (((x : X) → x ∈ xs → f x ≡ None) × (first_some f xs ≡ None)) ⊎ ((is_some (first_some f xs) ≡ true) × Found f xs (first_some f xs))
first_cases f [] = inl (λ x h. absurd h, refl)
first_cases {X} {Y} f (x ∷ xs) = step (f x) refl (first_cases f xs)
  where
    here : (y : X) → f x ≡ None → ((z : X) → z ∈ xs → f z ≡ None) → y ∈ (x ∷ xs) → f y ≡ None
    here y e k (inl h) = ap f h ∙ e
    here y e k (inr h) = k y h

    step : (o : Option Y) → f x ≡ o → (((y : X) → y ∈ xs → f y ≡ None) × (first_some f xs ≡ None)) ⊎ ((is_some (first_some f xs) ≡ true) × Found f xs (first_some f xs)) → (((y : X) → y ∈ (x ∷ xs) → f y ≡ None) × (first_some f (x ∷ xs) ≡ None)) ⊎ ((is_some (first_some f (x ∷ xs)) ≡ true) × Found f (x ∷ xs) (first_some f (x ∷ xs)))
    step (Some y) e k =
        let all : option_or (f x) (first_some f xs) ≡ Some y = ap (λ o. option_or o (first_some f xs)) e in
        inr (ap is_some all, record { where' = x; among = inl refl; is = e ∙ sym all })
    step None e (inl k) =
        let all : option_or (f x) (first_some f xs) ≡ None = ap (λ o. option_or o (first_some f xs)) e ∙ k.1 in
        inl (λ y h. here y e k.0 h, all)
    step None e (inr k) =
        let all : option_or (f x) (first_some f xs) ≡ first_some f xs = ap (λ o. option_or o (first_some f xs)) e in
        inr (ap is_some all ∙ k.0, record { where' = k.1.where'; among = inr k.1.among; is = k.1.is ∙ sym all })

module _ (m : Meaning) (t : ℕ) where
  -- whether u is another trait that has t above it
  abbrev other : ℕ → Bool
  other u = not (eqb u t) && on eqb (supers_of m u) t

  -- an entry with no breach is no other trait with t above it
  pub apart : (u : ℕ) → other u ≡ false → t ∈ supers_of m u → t ≡ u
  apart u e h = step (cases_Bool (eqb u t))
    where
      step : (eqb u t ≡ true) ⊎ (eqb u t ≡ false) → t ≡ u
      step (inl k) = sym (eqb-true u t k)
      step (inr k) = absurd (both_ways (not (eqb u t) && on eqb (supers_of m u) t) e (and_from (not (eqb u t)) (on eqb (supers_of m u) t) (not_from_false (eqb u t) k) (on_from_in (supers_of m u) t h)))

  pub mutual_tells : (u : ℕ) → u ∈ supers_of m t → other u ≡ true → Tells m t (Some (Mutual u))
  mutual_tells u a e =
      let both = and_parts (not (eqb u t)) (on eqb (supers_of m u) t) e in
      (a, in_from_on (supers_of m u) t both.1, λ q. both_ways (eqb u t) (not-true (eqb u t) both.0) (eq-eqb u t (sym q)))

  pub listed_above : (u v : ℕ) → missing (supers_of m t) u v ≡ None → v ∈ supers_of m t
  listed_above u v e = step (cases_Bool (on eqb (supers_of m t) v))
    where
      step : (on eqb (supers_of m t) v ≡ true) ⊎ (on eqb (supers_of m t) v ≡ false) → v ∈ supers_of m t
      step (inl k) = in_from_on (supers_of m t) v k
      step (inr k) = absurd (none-some (Missing u v) (sym e ∙ ap (λ b. cond b None (Some (Missing u v))) k))

  pub missing_tells : (u v : ℕ) (r : Option Breach) → u ∈ supers_of m t → v ∈ supers_of m u → missing (supers_of m t) u v ≡ r → is_some r ≡ true → Tells m t r
  missing_tells u v r a b e s = step (cases_Bool (on eqb (supers_of m t) v))
    where
      step : (on eqb (supers_of m t) v ≡ true) ⊎ (on eqb (supers_of m t) v ≡ false) → Tells m t r
      step (inl k) = absurd (both_ways true (sym (ap is_some (sym (ap (λ x. cond x None (Some (Missing u v))) k) ∙ e) ∙ s)) refl)
      step (inr k) =
          let is : Some (Missing u v) ≡ r = sym (ap (λ x. cond x None (Some (Missing u v))) k) ∙ e in
          subst (Tells m t) is (a, b, λ h. both_ways (on eqb (supers_of m t) v) k (on_from_in (supers_of m t) v h))

  -- the answer at an entry: nothing, and then it is as the law asks; or a breach
  pub record CleanAt (u : ℕ) : Type 0 where
    pub none : entry_breach m t (supers_of m t) u ≡ None
    pub same : t ∈ supers_of m u → t ≡ u
    pub listed : (v : ℕ) → v ∈ supers_of m u → v ∈ supers_of m t

  pub entry_cases : (u : ℕ) → u ∈ supers_of m t → CleanAt u ⊎ ((is_some (entry_breach m t (supers_of m t) u) ≡ true) × Tells m t (entry_breach m t (supers_of m t) u))
  entry_cases u a = step (cases_Bool (other u)) (first_cases (missing (supers_of m t) u) (supers_of m u))
    where
      step : (other u ≡ true) ⊎ (other u ≡ false) → (((x : ℕ) → x ∈ supers_of m u → missing (supers_of m t) u x ≡ None) × (first_some (missing (supers_of m t) u) (supers_of m u) ≡ None)) ⊎ ((is_some (first_some (missing (supers_of m t) u) (supers_of m u)) ≡ true) × Found (missing (supers_of m t) u) (supers_of m u) (first_some (missing (supers_of m t) u) (supers_of m u))) → CleanAt u ⊎ ((is_some (entry_breach m t (supers_of m t) u) ≡ true) × Tells m t (entry_breach m t (supers_of m t) u))
      step (inl k) c =
          let is : Some (Mutual u) ≡ entry_breach m t (supers_of m t) u = sym (ap (λ b. option_or (cond b (Some (Mutual u)) None) (first_some (missing (supers_of m t) u) (supers_of m u))) k) in
          inr (sym (ap is_some is), subst (Tells m t) is (mutual_tells u a k))
      step (inr k) (inl c) =
          let is : entry_breach m t (supers_of m t) u ≡ first_some (missing (supers_of m t) u) (supers_of m u) = ap (λ b. option_or (cond b (Some (Mutual u)) None) (first_some (missing (supers_of m t) u) (supers_of m u))) k in
          inl (record { none = is ∙ c.1; same = apart u k; listed = λ v h. listed_above u v (c.0 v h) })
      step (inr k) (inr c) =
          let is : entry_breach m t (supers_of m t) u ≡ first_some (missing (supers_of m t) u) (supers_of m u) = ap (λ b. option_or (cond b (Some (Mutual u)) None) (first_some (missing (supers_of m t) u) (supers_of m u))) k in
          inr (ap is_some is ∙ c.0, subst (Tells m t) (sym is) (missing_tells u c.1.where' _ a c.1.among c.1.is c.0))

  supers_begin : (x : ℕ) → m.supers t 0 ≡ Some x → (xs : List ℕ) × (supers_of m t ≡ x ∷ xs)
  unfolding listed_from
  supers_begin x e = (listed_from (m.supers t) (0 + 1) 63, ap (λ o. joined o (listed_from (m.supers t) (0 + 1) 63)) e)

  -- what the search tells, for a trait whose supers are not empty
  pub breach_tells : (x : ℕ) → m.supers t 0 ≡ Some x → Tells m t (breach_of m t)
  breach_tells x e = step (cases_Bool (eqb x t)) (first_cases (entry_breach m t (supers_of m t)) (supers_of m t))
    where
      start : beginning t (supers_of m t) ≡ cond (eqb x t) None (Some (NotItself x))
      start = ap (beginning t) (supers_begin x e).1

      later : eqb x t ≡ true → first_some (entry_breach m t (supers_of m t)) (supers_of m t) ≡ breach_of m t
      later k = sym (ap (λ o. option_or o (first_some (entry_breach m t (supers_of m t)) (supers_of m t))) (start ∙ ap (λ b. cond b None (Some (NotItself x))) k))

      clean : (u : ℕ) → u ∈ supers_of m t → entry_breach m t (supers_of m t) u ≡ None → CleanAt u
      clean u a n = only (entry_cases u a)
        where
          only : CleanAt u ⊎ ((is_some (entry_breach m t (supers_of m t) u) ≡ true) × Tells m t (entry_breach m t (supers_of m t) u)) → CleanAt u
          only (inl c) = c
          only (inr c) = absurd (both_ways true (sym c.0 ∙ ap is_some n) refl)

      told : (u : ℕ) (r : Option Breach) → u ∈ supers_of m t → entry_breach m t (supers_of m t) u ≡ r → is_some r ≡ true → Tells m t r
      told u r a q s = only (entry_cases u a)
        where
          only : CleanAt u ⊎ ((is_some (entry_breach m t (supers_of m t) u) ≡ true) × Tells m t (entry_breach m t (supers_of m t) u)) → Tells m t r
          only (inl c) = absurd (both_ways true (sym s ∙ ap is_some (sym q ∙ c.none)) refl)
          only (inr c) = subst (Tells m t) q c.1

      step : (eqb x t ≡ true) ⊎ (eqb x t ≡ false) → (((u : ℕ) → u ∈ supers_of m t → entry_breach m t (supers_of m t) u ≡ None) × (first_some (entry_breach m t (supers_of m t)) (supers_of m t) ≡ None)) ⊎ ((is_some (first_some (entry_breach m t (supers_of m t)) (supers_of m t)) ≡ true) × Found (entry_breach m t (supers_of m t)) (supers_of m t) (first_some (entry_breach m t (supers_of m t)) (supers_of m t))) → Tells m t (breach_of m t)
      step (inr k) c =
          let is : Some (NotItself x) ≡ breach_of m t = sym (ap (λ o. option_or o (first_some (entry_breach m t (supers_of m t)) (supers_of m t))) (start ∙ ap (λ b. cond b None (Some (NotItself x))) k)) in
          subst (Tells m t) is (e, λ q. both_ways (eqb x t) k (eq-eqb x t q))
      step (inl k) (inl c) =
          let law : SupersLawful m t = record {
            itself = e ∙ ap Some (eqb-true x t k);
            closed = λ u v a b. (clean u a (c.0 u a)).listed v b;
            one = λ u a b. (clean u a (c.0 u a)).same b;
          } in
          subst (Tells m t) (sym c.1 ∙ later k) law
      step (inl k) (inr c) = subst (Tells m t) (later k) (told c.1.where' _ c.1.among c.1.is c.0)

-- a breach is one
pub breach_breaks : (m : Meaning) (t : ℕ) (r : Option Breach) → Tells m t r → is_some r ≡ true → SupersLawful m t → ⊥
breach_breaks m t None h e l = both_ways true (sym e) refl
breach_breaks m t (Some (NotItself x)) h e l = h.1 (same_Some x t (sym h.0 ∙ l.itself))
breach_breaks m t (Some (Missing u v)) h e l = h.2 (l.closed u v h.0 h.1)
breach_breaks m t (Some (Mutual u)) h e l = h.2 (l.one u h.0 h.1)

-- where no breach is found, the law holds
pub breach_none : (m : Meaning) (t : ℕ) (r : Option Breach) → Tells m t r → is_some r ≡ false → SupersLawful m t
breach_none m t None h e = h
breach_none m t (Some b) h e = absurd (both_ways true e refl)

-- what an answer tells, by whether it is a breach
pub broken_or_lawful : (m : Meaning) (t : ℕ) (r : Option Breach) → Tells m t r → MatchBool (is_some r) (SupersLawful m t → ⊥) (SupersLawful m t)
broken_or_lawful m t None h = h
broken_or_lawful m t (Some b) h = breach_breaks m t (Some b) h refl

-- a trait whose only super is itself
pub alone_lawful : (m : Meaning) (t : ℕ) → m.supers t 0 ≡ Some t → supers_of m t ≡ t ∷ [] → SupersLawful m t
alone_lawful m t e is = record {
  itself = e;
  closed = λ u v a b. subst (λ w. v ∈ supers_of m w) (only u a) b;
  one = λ u a b. sym (only u a);
}
  where
    step : (u : ℕ) → (u ≡ t) ⊎ ⊥ → u ≡ t
    step u (inl q) = q
    step u (inr n) = absurd n

    only : (u : ℕ) → u ∈ supers_of m t → u ≡ t
    only u a = step u (subst (λ l. u ∈ l) is a)
