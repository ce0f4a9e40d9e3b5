-- An impl was met if its number is among those of the impls met.
use Rattle.std.proofs.Common.{◌≡◌, Bool, true, false, cond, not, ◌&&◌, ◌||◌, eqb, List, [], ◌∷◌, map, filter, sym, refl, ap, ◌∙◌}
use Rattle.std.proofs.lemmas.Bool.{and_parts, eqb-true}
use Rattle.roll.specs.Equality.{on}
use Rattle.method_resolution.specs.Offers.{Offer, once, same_impl, is_impl}
use Rattle.method_resolution.proofs.OneMore.{met_before}
use Rattle.assembly.specs.Growth.{impl_numbers}

-- an offer of the same impl as p is the same impl as o only if p is
other : (o p x : Offer) → same_impl p o ≡ false → same_impl p x ≡ true → same_impl x o ≡ false
other o p x no' s =
    let h = and_parts (is_impl p.kind) (is_impl x.kind && eqb p.container x.container) s in
    let k = and_parts (is_impl x.kind) (eqb p.container x.container) h.1 in
    ap (λ b. b && (is_impl o.kind && eqb x.container o.container)) (k.0 ∙ sym h.0)
    ∙ ap (λ n. is_impl p.kind && (is_impl o.kind && eqb n o.container)) (sym (eqb-true p.container x.container k.1)) ∙ no'

module _ (o : Offer) where
  -- leaving out another impl's offers
  others_kept : (p : Offer) → same_impl p o ≡ false → (xs : List Offer) → met_before o (filter (λ x. not (same_impl p x)) xs) ≡ met_before o xs
  others_kept p no' [] = refl
  others_kept p no' (x ∷ xs) = step (others_kept p no' xs) (same_impl p x) refl
    where
      step : met_before o (filter (λ y. not (same_impl p y)) xs) ≡ met_before o xs → (s : Bool) → same_impl p x ≡ s → met_before o (cond (not s) (x ∷ filter (λ y. not (same_impl p y)) xs) (filter (λ y. not (same_impl p y)) xs)) ≡ same_impl x o || met_before o xs
      step ih false e = ap (λ t. same_impl x o || t) ih
      step ih true e = ih ∙ ap (λ t. t || met_before o xs) (sym (other o p x no' e))

  -- leaving out repeats
  once_met : (raw : List Offer) → met_before o (once raw) ≡ met_before o raw
  once_met [] = refl
  once_met (p ∷ ps) = step (once_met ps) (same_impl p o) refl
    where
      step : met_before o (once ps) ≡ met_before o ps → (s : Bool) → same_impl p o ≡ s → s || met_before o (filter (λ x. not (same_impl p x)) (once ps)) ≡ s || met_before o ps
      step ih true e = refl
      step ih false e = others_kept p e (once ps) ∙ ih

  module _ (impl-o : is_impl o.kind ≡ true) where
    numbers_tell : (xs : List Offer) → on eqb (impl_numbers xs) o.container ≡ met_before o xs
    numbers_tell [] = refl
    numbers_tell (x ∷ xs) = step (numbers_tell xs) (is_impl x.kind)
      where
        step : on eqb (impl_numbers xs) o.container ≡ met_before o xs → (b : Bool) → on eqb (map (λ (z : Offer). z.container) (cond b (x ∷ filter (λ (z : Offer). is_impl z.kind) xs) (filter (λ (z : Offer). is_impl z.kind) xs))) o.container
            ≡ (b && (is_impl o.kind && eqb x.container o.container)) || met_before o xs
        step ih true = ap (λ t. eqb x.container o.container || t) ih ∙ ap (λ i. (i && eqb x.container o.container) || met_before o xs) (sym impl-o)
        step ih false = ih

    pub numbers_met : (raw : List Offer) → on eqb (impl_numbers (once raw)) o.container ≡ met_before o raw
    numbers_met raw = numbers_tell (once raw) ∙ once_met raw
