-- What a write to the table of a scope makes of the entries in it.
use Rattle.std.proofs.Common.{◌≡◌, ℕ, ◌+◌, ◌-◌, ◌<◌, ◌≤◌, List, [], ◌∷◌, ◌++◌, length, take, drop, set, Ok, Err, sym, refl, ap, ◌∙◌, subst, inl, inr, arith, add-one, length-drop}
use Rattle.std.specs.List.{remove, copy_within}
use Rattle.std.proofs.Math.Seq.{take-set-lt}
use Rattle.std.proofs.lemmas.List.Edits.{take-paste}
use Rattle.std.proofs.lemmas.List.{drop-take, get_or-take, length-take-le, take-take, take_more_set}
use Rattle.host.specs.Meaning.{◌∈◌}
use Rattle.host.specs.declared.refusals.Refusal.{Refusal}
use Rattle.host.specs.declared.refusals.Refusal.TheVariants.{TooManyTraits, TooManyClaims, NoClaimOut}
use Rattle.scope.specs.Entries.{traits_of, claims_on, Valid}
use Rattle.scope.specs.Places.{no_entry}
use Rattle.scope.specs.Scopes.{Raised, Lowered, Full, Admits, Releases}
use Rattle.scope.specs.declared.entries.Entry.{Entry}
use Rattle.scope.proofs.Claims.{trait_at, claims_at, claims_absent, in_at, claims_on_at}
use Rattle.scope.proofs.Changes.{raised_push, raised_set, lowered_set, lowered_removed, admits_keeps, releases_keeps}

-- the first n without the one at i, where the later ones have moved up by one place
take_moved_up : {X : Type 0} (xs : List X) (n i : ℕ) → i < n → n ≤ length xs → take (n - 1) (copy_within xs (i + 1) n i) ≡ remove (take n xs) i
take_moved_up xs n i h room =
    let later = n - (i + 1) in
    let behind = length-drop (i + 1) xs in
    let front : n - 1 ≡ i + later = omega arith in
    let all : (i + 1) + later ≡ n = omega arith in
    ap (λ k. take k (copy_within xs (i + 1) n i)) front
    ∙ take-paste xs i (drop (i + 1) xs) later (omega arith) (omega arith)
    ∙ ap (λ l. l ++ take later (drop (i + 1) xs)) (sym (take-take i n xs (omega arith)))
    ∙ ap (λ l. take i (take n xs) ++ l) (sym (drop-take (i + 1) later xs) ∙ ap (λ k. drop (i + 1) (take k xs)) all ∙ ap (λ k. drop k (take n xs)) (add-one i))

not_full : (es : List Entry) (t : ℕ) → (claims_on es t ≡ 0 → length es ≡ 64 → ⊥) → (claims_on es t ≡ 65535 → ⊥) → (e : Refusal) → Full es t e → ⊥
not_full es t room few e (inl p) = room p.1 p.2
not_full es t room few e (inr p) = few p.1

-- es is what the table of a scope holds
module _ (es table : List Entry) (len : ℕ) (is : take len table ≡ es) (size : length table ≡ 64) (inv : (len ≤ 64) × Valid (take len table)) where
  v : Valid es
  v = subst Valid is inv.1

  held_length : length es ≡ len
  held_length = ap length (sym is) ∙ length-take-le len table (omega arith)

  pub admit_keeps : (t : ℕ) (to : List Entry) (n : ℕ) → n ≤ 64 → Admits es t (Ok tt) (take n to) → (n ≤ 64) × Valid (take n to)
  admit_keeps t to n few a = (few, admits_keeps es t (Ok tt) (take n to) v a)

  pub release_keeps : (t : ℕ) (to : List Entry) (n : ℕ) → n ≤ 64 → Releases es t (Ok tt) (take n to) → (n ≤ 64) × Valid (take n to)
  release_keeps t to n few a = (few, releases_keeps es t (Ok tt) (take n to) v a)

  -- the trait t is not in scope
  module _ (t : ℕ) (absent : t ∈ traits_of es → ⊥) where
    none : claims_on es t ≡ 0
    none = claims_absent es t absent

    pub no_room : len ≡ 64 → Admits es t (Err TooManyTraits) es
    no_room full = (inl (refl, none, held_length ∙ full), refl)

    pub arrives : len < 64 → Admits es t (Ok tt) (take (len + 1) (set table len (record { tr = t; claims = 1 })))
    arrives room =
        let x : Entry = record { tr = t; claims = 1 } in
        let pushed = take_more_set table len x (omega arith) ∙ ap (λ l. l ++ (x ∷ [])) is in (
          not_full es t (λ _ n. omega (arith, held_length)) (λ n. omega (arith, none)),
          subst (Raised es t) (sym pushed) (raised_push es v.distinct v.claimed t x refl refl absent),
        )

    pub none_out : Releases es t (Err NoClaimOut) es
    none_out = (refl, none, refl)

  -- at the place i stands the trait t
  module _ (i t : ℕ) (l : i < length es) (here : trait_at es i ≡ t) where
    within : i < len
    within = omega (arith, held_length)

    same_claims : claims_at es i ≡ claims_at table i
    same_claims = ap (λ xs. claims_at xs i) (sym is) ∙ ap (λ (e : Entry). e.claims) (get_or-take len table i no_entry within)

    same_trait : trait_at table i ≡ t
    same_trait = sym (ap (λ xs. trait_at xs i) (sym is) ∙ ap (λ (e : Entry). e.tr) (get_or-take len table i no_entry within)) ∙ here

    claims_in : claims_at table i ≡ claims_on es t
    claims_in = sym same_claims ∙ sym (claims_on_at es i v.distinct l) ∙ ap (claims_on es) here

    some_out : (0 < claims_on es t) × (claims_on es t ≤ 65535)
    some_out = v.claimed t (subst (λ u. u ∈ traits_of es) here (in_at es i l))

    pub all_out : claims_at table i ≡ 65535 → Admits es t (Err TooManyClaims) es
    all_out many = (inr (refl, sym claims_in ∙ many), refl)

    module _ (n : ℕ) where
      abbrev written : Entry
      written = record { tr = trait_at table i; claims = n }

      placed : set es i written ≡ take len (set table i written)
      placed = sym (take-set-lt len table i written within ∙ ap (λ xs. set xs i written) is)

      pub rises : n ≡ claims_at table i + 1 → (claims_at table i ≡ 65535 → ⊥) → Admits es t (Ok tt) (take len (set table i written))
      rises more free = (
        not_full es t (λ z _. omega (arith, some_out)) (λ m. free (claims_in ∙ m)),
        subst (Raised es t) placed (raised_set es v.distinct v.claimed t i l here written same_trait (omega (arith, same_claims))),
      )

      pub falls : n ≡ claims_at table i - 1 → 1 < claims_at table i → Releases es t (Ok tt) (take len (set table i written))
      falls fewer many =
          subst (Lowered es t) placed (lowered_set es v.distinct v.claimed t i l here written same_trait (omega (arith, same_claims)) (omega (arith, same_claims)))

    pub leaves : claims_at table i ≤ 1 → (to : List Entry) → to ≡ copy_within table (i + 1) len i → Releases es t (Ok tt) (take (len - 1) to)
    leaves last to after =
        let moved = ap (take (len - 1)) after ∙ take_moved_up table len i within (omega arith) ∙ ap (λ xs. remove xs i) is in
        subst (Lowered es t) (sym moved) (lowered_removed es v.distinct v.claimed t i l here (omega (arith, same_claims)))
