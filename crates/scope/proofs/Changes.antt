-- One claim more or less: which changes of the entries make it, and what it keeps.
use Rattle.std.proofs.Common.{◌≡◌, ℕ, zero, suc, ◌+◌, ◌-◌, ◌<◌, ◌≤◌, ◌⊎◌, List, [], ◌∷◌, ◌++◌, length, set, Ok, Err, sym, refl, ap, ◌∙◌, subst, inl, inr, ⊎_elim, arith}
use Rattle.std.specs.List.{remove}
use Rattle.std.proofs.lemmas.List.{map_push}
use Rattle.std.proofs.lemmas.Bool.{cases_eq}
use Rattle.host.specs.Meaning.{◌∈◌}
use Rattle.host.specs.declared.refusals.Refusal.{Refusal}
use Rattle.host.specs.declared.refusals.Refusal.TheVariants.{TooManyClaims}
use Rattle.scope.specs.Entries.{traits_of, claims_on, Claimed, Valid}
use Rattle.scope.specs.Lists.{Distinct, without}
use Rattle.scope.specs.Scopes.{Answer, OthersStay, Raised, Lowered, Full, Admits, Releases}
use Rattle.scope.specs.declared.entries.Entry.{Entry}
use Rattle.scope.proofs.Lists.{distinct_push, distinct_filter, in_push, in_filter, in_without}
use Rattle.scope.proofs.Claims.{trait_at, claims_at, claims_absent, listed_or_none, in_at, claims_on_at, traits_set, claims_set_other, claims_set_same, claims_push_same, claims_push_other, traits_removed, claims_removed_other}

-- what Claimed says of a listed trait's claims
abbrev Count : ℕ → Type 0
Count n = (0 < n) × (n ≤ 65535)

-- no claim or some
pub cases_zero : (n : ℕ) → (n ≡ 0) ⊎ (0 < n)
cases_zero zero = inl refl
cases_zero (suc n) = inr (omega arith)

-- the last claim or one of several
pub cases_last : (es : List Entry) (t : ℕ) (fs : List Entry) → Lowered es t fs → (claims_on es t ≡ 1) ⊎ (1 < claims_on es t)
cases_last es t fs r =
    ⊎_elim (λ (z : claims_on fs t ≡ 0). inl (omega (arith, r.fewer))) (λ (h : 0 < claims_on fs t). inr (omega (arith, r.fewer))) (cases_zero (claims_on fs t))

module _ (es : List Entry) (d : Distinct (traits_of es)) (k : Claimed es) where
  pub raised_push : (t : ℕ) (x : Entry) → x.tr ≡ t → x.claims ≡ 1 → (t ∈ traits_of es → ⊥) → Raised es t (es ++ (x ∷ []))
  raised_push t x is one n =
      let none : claims_on es t ≡ 0 = claims_absent es t n in
      let same = claims_push_same es x (λ m. n (subst (λ u. u ∈ traits_of es) is m)) in
      let traits : traits_of (es ++ (x ∷ [])) ≡ traits_of es ++ (t ∷ []) = map_push (λ (e : Entry). e.tr) es x ∙ ap (λ u. traits_of es ++ (u ∷ [])) is in
      record {
        more = ap (claims_on (es ++ (x ∷ []))) (sym is) ∙ same ∙ omega arith;
        others = λ u a. claims_push_other es x u (λ q. a (q ∙ is));
        arrives = λ _. traits;
        stays = λ h. absurd (omega arith);
        distinct = subst Distinct (sym traits) (distinct_push (traits_of es) t d n);
      }

  -- at the place i stands the trait t
  module _ (t i : ℕ) (l : i < length es) (is : trait_at es i ≡ t) where
    claims_were : claims_on es t ≡ claims_at es i
    claims_were = ap (claims_on es) (sym is) ∙ claims_on_at es i d l

    some_out : 0 < claims_on es t
    some_out = (k t (subst (λ u. u ∈ traits_of es) is (in_at es i l))).0

    module _ (x : Entry) (of : x.tr ≡ t) where
      set_same : claims_on (set es i x) t ≡ x.claims
      set_same = ap (claims_on (set es i x)) (sym of) ∙ claims_set_same es i x d l (is ∙ sym of)

      set_others : OthersStay es t (set es i x)
      set_others u a = claims_set_other es i x u (is ∙ sym of) (λ q. a (q ∙ of))

      set_traits : traits_of (set es i x) ≡ traits_of es
      set_traits = traits_set es i x (is ∙ sym of)

      pub raised_set : x.claims ≡ claims_at es i + 1 → Raised es t (set es i x)
      raised_set more = record {
        more = omega (arith, set_same, claims_were);
        others = set_others;
        arrives = λ z. absurd (omega (arith, some_out));
        stays = λ _. set_traits;
        distinct = subst Distinct (sym set_traits) d;
      }

      pub lowered_set : 1 < claims_at es i → x.claims ≡ claims_at es i - 1 → Lowered es t (set es i x)
      lowered_set many fewer = record {
        fewer = omega (arith, set_same, claims_were);
        others = set_others;
        leaves = λ o. absurd (omega (arith, claims_were));
        stays = λ _. set_traits;
        distinct = subst Distinct (sym set_traits) d;
      }

    pub lowered_removed : claims_at es i ≤ 1 → Lowered es t (remove es i)
    lowered_removed few =
        let traits : traits_of (remove es i) ≡ without t (traits_of es) = traits_removed es i d l ∙ ap (λ u. without u (traits_of es)) is in
        let none : claims_on (remove es i) t ≡ 0 = claims_absent (remove es i) t (λ m. in_without t (traits_of es) (subst (λ ts. t ∈ ts) traits m)) in
        record {
          fewer = omega (arith, claims_were, some_out);
          others = λ u a. claims_removed_other es i u (λ q. a (q ∙ is));
          leaves = λ _. traits;
          stays = λ h. absurd (omega (arith, claims_were));
          distinct = subst Distinct (sym traits) (distinct_filter _ (traits_of es) d);
        }

  -- the others are listed as before
  module _ (t : ℕ) (fs : List Entry) where
    keeps_claimed : OthersStay es t fs → ((u : ℕ) → (u ≡ t → ⊥) → u ∈ traits_of fs → u ∈ traits_of es) → (t ∈ traits_of fs → Count (claims_on fs t)) → Claimed fs
    keeps_claimed others old own u m =
        ⊎_elim
        (λ (q : u ≡ t). subst (λ v. v ∈ traits_of fs → Count (claims_on fs v)) (sym q) own m)
        (λ (n : u ≡ t → ⊥). subst Count (sym (others u n)) (k u (old u n m)))
        (cases_eq u t)

    raised_keeps : claims_on es t < 65535 → Raised es t fs → Valid fs
    raised_keeps few r = ⊎_elim new old (cases_zero (claims_on es t))
      where
        own : t ∈ traits_of fs → Count (claims_on fs t)
        own _ = (omega (arith, r.more), omega (arith, r.more))

        new : claims_on es t ≡ 0 → Valid fs
        new z =
            let ts = r.arrives z in
            record {
              distinct = subst Distinct (sym ts) (distinct_push (traits_of es) t d (λ m. omega (arith, (k t m).0)));
              claimed = keeps_claimed r.others (λ u n m. ⊎_elim (λ (h : u ∈ traits_of es). h) (λ (q : u ≡ t). absurd (n q)) (in_push (traits_of es) u t (subst (λ l. u ∈ l) ts m))) own;
            }

        old : 0 < claims_on es t → Valid fs
        old h = let ts = r.stays h in record { distinct = subst Distinct (sym ts) d; claimed = keeps_claimed r.others (λ u n m. subst (λ l. u ∈ l) ts m) own }

    lowered_keeps : Lowered es t fs → Valid fs
    lowered_keeps r = ⊎_elim last old (cases_last es t fs r)
      where
        last : claims_on es t ≡ 1 → Valid fs
        last o =
            let ts = r.leaves o in
            record {
              distinct = subst Distinct (sym ts) (distinct_filter _ (traits_of es) d);
              claimed = keeps_claimed r.others (λ u n m. (in_filter _ (traits_of es) u (subst (λ l. u ∈ l) ts m)).0) (λ m. absurd (in_without t (traits_of es) (subst (λ l. t ∈ l) ts m)));
            }

        old : 1 < claims_on es t → Valid fs
        old h =
            let ts = r.stays h in
            let own : t ∈ traits_of fs → Count (claims_on fs t) = λ m. let was = (k t (subst (λ l. t ∈ l) ts m)).1 in (omega (arith, r.fewer), omega (arith, r.fewer)) in
            record { distinct = subst Distinct (sym ts) d; claimed = keeps_claimed r.others (λ u n m. subst (λ l. u ∈ l) ts m) own }

    -- a granted claim is not the 65536th
    fewer_out : ((e : Refusal) → Full es t e → ⊥) → claims_on es t < 65535
    fewer_out free = ⊎_elim below (λ (z : claims_on es t ≡ 0). omega arith) (listed_or_none es t)
      where
        below : t ∈ traits_of es → claims_on es t < 65535
        below m = let apart : claims_on es t ≡ 65535 → ⊥ = λ e. free TooManyClaims (inr (refl, e)) in omega (arith, (k t m).1, apart)

-- What each call keeps: distinct traits, each with a claim out.
pub admits_keeps : (es : List Entry) (t : ℕ) (r : Answer) (fs : List Entry) → Valid es → Admits es t r fs → Valid fs
admits_keeps es t (Ok _) fs v a = raised_keeps es v.distinct v.claimed t fs (fewer_out es v.distinct v.claimed t fs a.0) a.1
admits_keeps es t (Err e) fs v a = subst Valid (sym a.1) v

pub releases_keeps : (es : List Entry) (t : ℕ) (r : Answer) (fs : List Entry) → Valid es → Releases es t r fs → Valid fs
releases_keeps es t (Ok _) fs v a = lowered_keeps es v.distinct v.claimed t fs a
releases_keeps es t (Err e) fs v a = subst Valid (sym a.2) v
