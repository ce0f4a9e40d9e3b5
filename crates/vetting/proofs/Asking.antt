-- A list that a closure is asked for place by place, from the start of a range on.
use Rattle.std.proofs.Common.{◌≡◌, ℕ, zero, suc, ◌+◌, ◌-◌, Some, None, Option, refl, sym, ap, ◌∙◌, subst, arith}
use Rattle.std.specs.Fn.{Called}
use Rattle.std.specs.Iterator.{AlwaysYields}
use Rattle.std.specs.Iterator.Adapters.{map_while_source, map_while_callee, map_while_steps}
use Rattle.std.specs.declared.ops.Range.{Range}
use Rattle.std.specs.declared.iter.MapWhile.{MapWhile}
use Rattle.std.proofs.iter.Yields.{nat_range_steps}
use Rattle.std.proofs.lemmas.Iterator.{YieldsList}
use Rattle.std.proofs.lemmas.Option.{none-some}
use Rattle.host.specs.Meaning.{joined, listed_from}
use denote.Param.Members.{Mut}

module _ {X F : Type 0} (g : Mut F (ℕ × Unit {0}) (Option X)) (f : ℕ → Option X) (h : F) (answers : (p : ℕ) (r : Option X) (k : F) → Called g h (p, tt) r k → (k ≡ h) × (r ≡ f p)) where
  -- a turn within the range
  turn : (s t : MapWhile (Range ℕ) F) (r : Option X) (n : ℕ) → map_while_callee s ≡ h → (map_while_source s).end - (map_while_source s).start ≡ suc n → map_while_steps nat_range_steps g s r t → (r ≡ f (map_while_source s).start) × (map_while_callee t ≡ h) × ((map_while_source t).start ≡ (map_while_source s).start + 1) × ((map_while_source t).end - (map_while_source t).start ≡ n)
  turn s t r n c e (None, q, m) = absurd (omega (arith, e, q.1.0))
  turn s t r n c e (Some k, q, m) =
      let said = answers k r (map_while_callee t) (subst (λ w. Called g w (k, tt) r (map_while_callee t)) c m) in
      (said.1 ∙ ap f q.1.1, said.0, q.1.2, omega (arith, e, q.0, q.1.2))

  -- a turn at its end
  stop : (s t : MapWhile (Range ℕ) F) (x : X) → (map_while_source s).end - (map_while_source s).start ≡ 0 → map_while_steps nat_range_steps g s (Some x) t → ⊥
  stop s t x e (None, q, m) = none-some x (sym m.0)
  stop s t x e (Some k, q, m) = omega (arith, e, q.1.0)

  asks : (n : ℕ) (s : MapWhile (Range ℕ) F) → map_while_callee s ≡ h → (map_while_source s).end - (map_while_source s).start ≡ n → AlwaysYields (map_while_steps nat_range_steps g) (λ y. y) s (listed_from f (map_while_source s).start n)
  unfolding listed_from
  asks zero s c e = λ x t p. stop s t x e p
  asks (suc n) s c e = goes (f (map_while_source s).start) refl (λ t d a b. subst (λ p. AlwaysYields (map_while_steps nat_range_steps g) (λ y. y) t (listed_from f p n)) a (asks n t d b))
    where
      goes : (o : Option X) → f (map_while_source s).start ≡ o → ((t : MapWhile (Range ℕ) F) → map_while_callee t ≡ h → (map_while_source t).start ≡ (map_while_source s).start + 1 → (map_while_source t).end - (map_while_source t).start ≡ n → AlwaysYields (map_while_steps nat_range_steps g) (λ y. y) t (listed_from f ((map_while_source s).start + 1) n)) → AlwaysYields (map_while_steps nat_range_steps g) (λ y. y) s (joined o (listed_from f ((map_while_source s).start + 1) n))
      goes None is more = λ x t p. none-some x (sym is ∙ sym (turn s t (Some x) n c e p).0)
      goes (Some y) is more = ((λ t p. none-some y ((turn s t None n c e p).0 ∙ is)), λ x t p. let w = turn s t (Some x) n c e p in let z = w.0 in (cc, more t w.1 w.2 w.3))

  -- what the places of a range that begins at 0 give, up to the first that is absent
  pub asked_gives : (s : MapWhile (Range ℕ) F) (n : ℕ) → map_while_callee s ≡ h → map_while_source s ≡ record { start = 0; end = n } → YieldsList (map_while_steps nat_range_steps g) (λ y. y) s (listed_from f 0 n)
  asked_gives s n c e = record { runs = subst (λ p. AlwaysYields (map_while_steps nat_range_steps g) (λ y. y) s (listed_from f p n)) (ap (λ (r : Range ℕ). r.start) e) (asks n s c (omega (arith, ap (λ (r : Range ℕ). r.start) e, ap (λ (r : Range ℕ). r.end) e))) }
