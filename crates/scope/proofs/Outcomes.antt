-- A call's relation determines its outcome.
use Rattle.std.proofs.Common.{◌≡◌, ℕ, List, Ok, Err, sym, refl, ap, ◌∙◌, subst, inl, inr, ⊎_elim, arith}
use Rattle.std.proofs.lemmas.Bool.{cases_eq}
use Rattle.host.specs.declared.refusals.Refusal.{Refusal}
use Rattle.scope.specs.Entries.{traits_of, claims_on}
use Rattle.scope.specs.Scopes.{OthersStay, Raised, Lowered, Full, Admits, Releases, Determined}
use Rattle.scope.specs.declared.entries.Entry.{Entry}
use Rattle.scope.specs.Lists.{Distinct}
use Rattle.scope.proofs.Claims.{same_entries}
use Rattle.scope.proofs.Changes.{cases_zero, cases_last}

-- two changes of the same entries by one claim
module _ (es fs gs : List Entry) (t : ℕ) where
  same_after : Distinct (traits_of fs) → traits_of fs ≡ traits_of gs → claims_on fs t ≡ claims_on gs t → OthersStay es t fs → OthersStay es t gs → fs ≡ gs
  same_after d traits own a b =
      same_entries fs gs d traits (λ u.
      ⊎_elim (λ (q : u ≡ t). subst (λ v. claims_on fs v ≡ claims_on gs v) (sym q) own) (λ (n : u ≡ t → ⊥). a u n ∙ sym (b u n)) (cases_eq u t))

  one_raised : Raised es t fs → Raised es t gs → fs ≡ gs
  one_raised a b =
      let traits : traits_of fs ≡ traits_of gs = ⊎_elim (λ z. a.arrives z ∙ sym (b.arrives z)) (λ h. a.stays h ∙ sym (b.stays h)) (cases_zero (claims_on es t)) in
      same_after a.distinct traits (a.more ∙ sym b.more) a.others b.others

  one_lowered : Lowered es t fs → Lowered es t gs → fs ≡ gs
  one_lowered a b =
      let traits : traits_of fs ≡ traits_of gs = ⊎_elim (λ o. a.leaves o ∙ sym (b.leaves o)) (λ h. a.stays h ∙ sym (b.stays h)) (cases_last es t fs a) in
      same_after a.distinct traits (omega (arith, a.fewer, b.fewer)) a.others b.others

one_reason : (es : List Entry) (t : ℕ) (e f : Refusal) → Full es t e → Full es t f → e ≡ f
one_reason es t e f (inl p) (inl q) = p.0 ∙ sym q.0
one_reason es t e f (inl p) (inr q) = absurd (omega arith)
one_reason es t e f (inr p) (inl q) = absurd (omega arith)
one_reason es t e f (inr p) (inr q) = p.0 ∙ sym q.0

pub admit_determined : Determined Admits
admit_determined es fs gs t (Ok _) (Ok _) p q = (refl, one_raised es fs gs t p.1 q.1)
admit_determined es fs gs t (Ok _) (Err e) p q = absurd (p.0 e q.0)
admit_determined es fs gs t (Err e) (Ok _) p q = absurd (q.0 e p.0)
admit_determined es fs gs t (Err e) (Err f) p q = (ap Err (one_reason es t e f p.0 q.0), p.1 ∙ sym q.1)

pub release_determined : Determined Releases
release_determined es fs gs t (Ok _) (Ok _) p q = (refl, one_lowered es fs gs t p q)
release_determined es fs gs t (Ok _) (Err e) p q = absurd (omega (arith, p.fewer, q.1))
release_determined es fs gs t (Err e) (Ok _) p q = absurd (omega (arith, q.fewer, p.1))
release_determined es fs gs t (Err e) (Err f) p q = (ap Err (p.0 ∙ sym q.0), p.2 ∙ sym q.2)
