-- What stands before the first empty slot, as a chain of iterators gives it.
use Rattle.std.proofs.Common.{◌≡◌, ℕ, suc, ◌+◌, ◌<◌, ◌≤◌, List, [], ◌∷◌, length, get_or, Some, None, Option, MatchOption, sym, ap, ◌∙◌, refl, subst, map-id, add-zero, arith}
use Rattle.std.specs.Fn.{Called}
use Rattle.std.specs.Iterator.{Yields, AlwaysYields}
use Rattle.std.specs.Iterator.Adapters.{map_while_source, map_while_callee, map_while_steps}
use Rattle.std.specs.declared.iter.MapWhile.{MapWhile}
use Rattle.std.proofs.lemmas.Iterator.{YieldsList}
use Rattle.std.proofs.lemmas.Iterator.Consumers.{YieldsList-end}
use Rattle.std.proofs.lemmas.Option.{none-some, same_Some}
use denote.Param.Members.{Mut}
use Rattle.host.specs.Meaning.{listed_from, joined}

abbrev pub fronts : {X : Type 0} → List (Option X) → List X
fronts [] = []
fronts (o ∷ os) = joined o (fronts os)

pub length-fronts : {X : Type 0} (os : List (Option X)) → length (fronts os) ≤ length os
length-fronts [] = omega arith
length-fronts (None ∷ os) = omega arith
length-fronts (Some x ∷ os) = omega (arith, length-fronts os)

pub listed-fronts : {X : Type 0} (f : ℕ → Option X) (os : List (Option X)) (p : ℕ) → ((k : ℕ) → k < length os → get_or os k None ≡ f (p + k)) → listed_from f p (length os) ≡ fronts os
unfolding listed_from
listed-fronts f [] p h = refl
listed-fronts f (o ∷ os) p h =
    let here : f p ≡ o = sym (h 0 (omega arith) ∙ ap f (add-zero p)) in
    let rest : listed_from f (p + 1) (length os) ≡ fronts os = listed-fronts f os (p + 1) (λ k b. h (suc k) (omega arith) ∙ ap f (omega arith)) in
    ap (λ x. joined x (listed_from f (p + 1) (length os))) here ∙ ap (joined o) rest

module _ {S A F X : Type 0} (steps : S → Option A → S → Type 0) (v : A → Option X) (g : Mut F (A × Unit {0}) (Option X)) (f : F) (gives : (x : A) (o : Option X) (q : F) → Called g f (x, tt) o q → (q ≡ f) × (o ≡ v x)) where
  called : (s t : MapWhile S F) (y : A) (r : Option X) → map_while_callee s ≡ f → Called g (map_while_callee s) (y, tt) r (map_while_callee t) → (map_while_callee t ≡ f) × (r ≡ v y)
  called s t y r a c = gives y r (map_while_callee t) (subst (λ w. Called g w (y, tt) r (map_while_callee t)) a c)

  yields : (os : List (Option X)) (s : MapWhile S F) → map_while_callee s ≡ f → AlwaysYields steps v (map_while_source s) os → AlwaysYields (map_while_steps steps g) (λ x. x) s (fronts os)
  yields [] s a e = λ x t p. step x t p.0 p.1 p.2
    where
      step : (x : X) (t : MapWhile S F) (o : Option A) → steps (map_while_source s) o (map_while_source t) → MatchOption o ((Some x ≡ None) × (map_while_callee t ≡ map_while_callee s)) (λ y. Called g (map_while_callee s) (y, tt) (Some x) (map_while_callee t)) → ⊥
      step x t None p c = none-some x (sym c.0)
      step x t (Some y) p c = e y (map_while_source t) p
  yields (None ∷ os) s a e = λ x t p. step x t p.0 p.1 p.2
    where
      step : (x : X) (t : MapWhile S F) (o : Option A) → steps (map_while_source s) o (map_while_source t) → MatchOption o ((Some x ≡ None) × (map_while_callee t ≡ map_while_callee s)) (λ y. Called g (map_while_callee s) (y, tt) (Some x) (map_while_callee t)) → ⊥
      step x t None p c = none-some x (sym c.0)
      step x t (Some y) p c = none-some x (sym ((called s t y (Some x) a c).1 ∙ (e.1 y (map_while_source t) p).0))
  yields (Some z ∷ os) s a e = (λ t p. ends t p.0 p.1 p.2, λ x t p. goes x t (λ b q. yields os t b q) p.0 p.1 p.2)
    where
      ends : (t : MapWhile S F) (o : Option A) → steps (map_while_source s) o (map_while_source t) → MatchOption o ((◌≡◌ {A = Option X} None None) × (map_while_callee t ≡ map_while_callee s)) (λ y. Called g (map_while_callee s) (y, tt) None (map_while_callee t)) → ⊥
      ends t None p c = e.0 (map_while_source t) p
      ends t (Some y) p c = none-some z ((called s t y None a c).1 ∙ (e.1 y (map_while_source t) p).0)

      goes : (x : X) (t : MapWhile S F) (rest : map_while_callee t ≡ f → AlwaysYields steps v (map_while_source t) os → AlwaysYields (map_while_steps steps g) (λ x. x) t (fronts os)) (o : Option A) → steps (map_while_source s) o (map_while_source t) → MatchOption o ((Some x ≡ None) × (map_while_callee t ≡ map_while_callee s)) (λ y. Called g (map_while_callee s) (y, tt) (Some x) (map_while_callee t)) → (x ≡ z) × AlwaysYields (map_while_steps steps g) (λ x. x) t (fronts os)
      goes x t rest None p c = absurd (none-some x (sym c.0))
      goes x t rest (Some y) p c =
          let call = called s t y (Some x) a c in
          let here = e.1 y (map_while_source t) p in
          (same_Some x z (call.1 ∙ here.0), rest call.0 here.1)

-- `map_while` with a closure that hands on its item gives what stands before the first `None`
pub YieldsList-from_map_while : {S A F X : Type 0} {steps : S → Option A → S → Type 0} {v : A → Option X} {s : MapWhile S F} {os : List (Option X)} (g : Mut F (A × Unit {0}) (Option X)) {f : F} → YieldsList steps v (map_while_source s) os → map_while_callee s ≡ f → ((x : A) (o : Option X) (q : F) → Called g f (x, tt) o q → (q ≡ f) × (o ≡ v x)) → YieldsList (map_while_steps steps g) (λ x. x) s (fronts os)
YieldsList-from_map_while {S} {A} {F} {X} {steps} {v} {s} {os} g {f} e a k = record { runs = yields steps v g f k os s a e.runs }

-- all that such a chain gave until it ended
pub fronts_yielded : {S A F X : Type 0} {steps : S → Option A → S → Type 0} {v : A → Option X} {g : Mut F (A × Unit {0}) (Option X)} (s t u : MapWhile S F) (xs : List X) (r : Option X) → Yields (map_while_steps steps g) s xs t → r ≡ None → map_while_steps steps g t r u → {os : List (Option X)} {f : F} → YieldsList steps v (map_while_source s) os → map_while_callee s ≡ f → ((x : A) (o : Option X) (q : F) → Called g f (x, tt) o q → (q ≡ f) × (o ≡ v x)) → xs ≡ fronts os
fronts_yielded {S} {A} {F} {X} {steps} {v} {g} s t u xs r y is p e a k = sym (map-id xs) ∙ (YieldsList-end (YieldsList-from_map_while g e a k) xs t y r u is p).0
