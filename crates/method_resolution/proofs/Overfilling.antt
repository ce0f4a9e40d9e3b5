-- Which refusal assembly gives, if any, is the same for all scopes.
use Rattle.std.proofs.Common.{◌≡◌, ◌+◌, ◌≤◌, ◌⊎◌, List, [], ◌∷◌, ◌++◌, length, sym, refl, ap, ◌∙◌, subst, inl, inr, append_assoc, arith, length-append}
use Rattle.std.specs.List.{AllByRecursion as All}
use Rattle.std.proofs.lemmas.List.{length-map}
use Rattle.method_resolution.specs.Types.{Refusal}
use Rattle.method_resolution.specs.Questions.{Question, Scope}
use Rattle.method_resolution.specs.Offers.{Offer, inherent_offers, trait_offers, offers}
use Rattle.method_resolution.specs.Assembly as assembly
use Rattle.method_resolution.specs.Assembly.{ListName, inherent, extension, private, candidates_on, Fits, Overfull, Overfills}
use Rattle.method_resolution.proofs.AssembledLists.{FromScope, inherent_from_step, trait_offers_from_scope, candidates_on-append, extension_from_steps, inherent_from_scope, private_from_scope, few_candidates, impls_met-append, no_impls_from_scope}

-- How a cut of a list lies to another. `Within`, `Past`, `where_cut` and `all_left` are for `overfills_at_steps`.
module _ {X : Type 0} where
  record Within (xs before : List X) (next : X) : Type 0 where
    rest : List X
    are : xs ≡ before ++ (next ∷ rest)

  record Past (xs ys before : List X) (next : X) (after : List X) : Type 0 where
    over : List X
    before_is : before ≡ xs ++ over
    ys_is : ys ≡ over ++ (next ∷ after)

  where_cut : (xs ys before : List X) (next : X) (after : List X) → xs ++ ys ≡ before ++ (next ∷ after) → Within xs before next ⊎ Past xs ys before next after
  where_cut [] ys before next after e = inr (record { over = before; before_is = refl; ys_is = e })
  where_cut (x ∷ xs) ys [] next after e = let h : x ≡ next = cc in inl (record { rest = xs; are = ap (λ z. z ∷ xs) h })
  where_cut (x ∷ xs) ys (b ∷ before) next after e = let h : x ≡ b = cc in let t : xs ++ ys ≡ before ++ (next ∷ after) = cc in step h (where_cut xs ys before next after t)
    where
      step : x ≡ b → Within xs before next ⊎ Past xs ys before next after → Within (x ∷ xs) (b ∷ before) next ⊎ Past (x ∷ xs) ys (b ∷ before) next after
      step h (inl w) = inl (record { rest = w.rest; are = (λ i. h i ∷ w.are i) })
      step h (inr p) = inr (record { over = p.over; before_is = (λ i. sym h i ∷ p.before_is i); ys_is = p.ys_is })

  shorter_or_not : (a : List X) (x : X) (b c : List X) (y : X) (d : List X) → a ++ (x ∷ b) ≡ c ++ (y ∷ d) → ((e : List X) × (c ≡ a ++ (x ∷ e))) ⊎ (((a ≡ c) × (x ≡ y)) ⊎ ((e : List X) × (a ≡ c ++ (y ∷ e))))
  shorter_or_not [] x b [] y d e = inr (inl (refl, cc))
  shorter_or_not [] x b (z ∷ c) y d e = let h : x ≡ z = cc in inl (c, ap (λ w. w ∷ c) (sym h))
  shorter_or_not (z ∷ a) x b [] y d e = let h : z ≡ y = cc in inr (inr (a, ap (λ w. w ∷ a) h))
  shorter_or_not (z ∷ a) x b (w ∷ c) y d e =
      let h : z ≡ w = cc in
      let t : a ++ (x ∷ b) ≡ c ++ (y ∷ d) = cc in
      step h (shorter_or_not a x b c y d t)
    where
      step : z ≡ w → ((e : List X) × (c ≡ a ++ (x ∷ e))) ⊎ (((a ≡ c) × (x ≡ y)) ⊎ ((e : List X) × (a ≡ c ++ (y ∷ e))))
          → ((e : List X) × (w ∷ c ≡ z ∷ (a ++ (x ∷ e)))) ⊎ (((z ∷ a ≡ w ∷ c) × (x ≡ y)) ⊎ ((e : List X) × (z ∷ a ≡ w ∷ (c ++ (y ∷ e)))))
      step h (inl k) = inl (k.0, (λ i. sym h i ∷ k.1 i))
      step h (inr (inl k)) = inr (inl ((λ i. h i ∷ k.0 i), k.1))
      step h (inr (inr k)) = inr (inr (k.0, (λ i. h i ∷ k.1 i)))

  all_left : (P : X → Type 0) (xs ys : List X) → All P (xs ++ ys) → All P xs
  all_left P [] ys a = tt
  all_left P (x ∷ xs) ys a = (a.0, all_left P xs ys a.1)

  cons_apart : (a : List X) (x : X) (b : List X) → a ++ (x ∷ b) ≡ (a ++ (x ∷ [])) ++ b
  cons_apart a x b = sym (append_assoc a (x ∷ []) b)

module _ (q : Question) where
  fits_front : (os ps : List Offer) → Fits q (os ++ ps) → Fits q os
  fits_front os ps f = record {
    impls = (let h = impls_met-append os ps in let k = f.impls in omega arith);
    candidates = λ l. (let h = ap length (candidates_on-append q l os ps) ∙ length-append (candidates_on q l os) (candidates_on q l ps) in let k = f.candidates l in omega arith);
  }

  fits_not_overfull : (os : List Offer) (e : Refusal) → Fits q os → Overfull q os e → ⊥
  fits_not_overfull os e f (assembly.impls h) = let k = f.impls in omega arith
  fits_not_overfull os e f (assembly.candidates h l m) = let k = f.candidates l in omega arith

  overfull_once : (os : List Offer) (e d : Refusal) → Overfull q os e → Overfull q os d → e ≡ d
  overfull_once os e d (assembly.impls h) (assembly.impls k) = refl
  overfull_once os e d (assembly.impls h) (assembly.candidates k l m) = absurd (omega arith)
  overfull_once os e d (assembly.candidates h l m) (assembly.impls k) = absurd (omega arith)
  overfull_once os e d (assembly.candidates h l m) (assembly.candidates k n o) = refl

  -- a front that fits leaves no refusal inside it
  pub fits_not_overfills : (os : List Offer) (e : Refusal) → Fits q os → Overfills q os e → ⊥
  fits_not_overfills os e f o = fits_not_overfull (o.before ++ (o.next ∷ [])) e (fits_front (o.before ++ (o.next ∷ [])) o.after (subst (Fits q) (o.are ∙ cons_apart o.before o.next o.after) f)) o.full

  inside : (c a : List Offer) (x : Offer) (b : List Offer) (e : Refusal) → c ≡ a ++ (x ∷ b) → Fits q c → Overfull q (a ++ (x ∷ [])) e → ⊥
  inside c a x b e s f o = fits_not_overfull (a ++ (x ∷ [])) e (fits_front (a ++ (x ∷ [])) b (subst (Fits q) (s ∙ cons_apart a x b) f)) o

  pub overfills_once : (os : List Offer) (e d : Refusal) → Overfills q os e → Overfills q os d → e ≡ d
  overfills_once os e d o p = step (shorter_or_not o.before o.next o.after p.before p.next p.after (sym o.are ∙ p.are))
    where
      step : ((r : List Offer) × (p.before ≡ o.before ++ (o.next ∷ r))) ⊎ (((o.before ≡ p.before) × (o.next ≡ p.next)) ⊎ ((r : List Offer) × (o.before ≡ p.before ++ (p.next ∷ r)))) → e ≡ d
      step (inl h) = absurd (inside p.before o.before o.next h.0 e h.1 p.fits o.full)
      step (inr (inl h)) = overfull_once (p.before ++ (p.next ∷ [])) e d (subst (λ l. Overfull q l e) (λ i. h.0 i ++ (h.1 i ∷ [])) o.full) p.full
      step (inr (inr h)) = absurd (inside o.before p.before p.next h.0 d h.1 o.fits p.full)

  -- at most 64 offers of traits in scope change nothing
  fits_with_scope : (os : List Offer) → Fits q (inherent_offers q) → All FromScope os → length os ≤ 64 → Fits q (inherent_offers q ++ os)
  fits_with_scope os f a few = record {
    impls = (let h = impls_met-append (inherent_offers q) os in let k = no_impls_from_scope os a in let g = f.impls in omega arith);
    candidates = by_list;
  }
    where
      joined : (l : ListName) → length (candidates_on q l (inherent_offers q ++ os)) ≡ length (candidates_on q l (inherent_offers q)) + length (candidates_on q l os)
      joined l = ap length (candidates_on-append q l (inherent_offers q) os) ∙ length-append (candidates_on q l (inherent_offers q)) (candidates_on q l os)

      by_list : (l : ListName) → length (candidates_on q l (inherent_offers q ++ os)) ≤ 64
      by_list inherent = let h = joined inherent in let k : length (candidates_on q inherent os) ≡ 0 = ap length (inherent_from_scope q os a) in let g = f.candidates inherent in omega arith
      by_list private = let h = joined private in let k : length (candidates_on q private os) ≡ 0 = ap length (private_from_scope q os a) in let g = f.candidates private in omega arith
      by_list extension = let h = joined extension in let k : length (candidates_on q extension (inherent_offers q)) ≡ 0 = ap length (extension_from_steps q (inherent_offers q) (inherent_from_step q)) in let g = few_candidates q extension os in omega arith

  length-offers : (ts : Scope) → length (trait_offers ts) ≡ length ts
  length-offers ts = length-map ts _

  pub fits_any_scope : (ts : Scope) → length ts ≤ 64 → Fits q (inherent_offers q) → Fits q (offers q ts)
  fits_any_scope ts few f = let h = length-offers ts in fits_with_scope (trait_offers ts) f (trait_offers_from_scope ts) (omega arith)

  -- So a refusal comes from the steps. Nothing cites this yet: it is for the pick, which is still to come.
  pub overfills_at_steps : (ts : Scope) (e : Refusal) → length ts ≤ 64 → Overfills q (offers q ts) e → Overfills q (inherent_offers q) e
  overfills_at_steps ts e few o = step (where_cut (inherent_offers q) (trait_offers ts) o.before o.next o.after o.are)
    where
      step : Within (inherent_offers q) o.before o.next ⊎ Past (inherent_offers q) (trait_offers ts) o.before o.next o.after → Overfills q (inherent_offers q) e
      step (inl w) = record { before = o.before; next = o.next; after = w.rest; are = w.are; fits = o.fits; full = o.full }
      step (inr p) =
          let front = p.over ++ (o.next ∷ []) in
          let whole : trait_offers ts ≡ front ++ o.after = p.ys_is ∙ cons_apart p.over o.next o.after in
          let from_scope = all_left FromScope front o.after (subst (All FromScope) whole (trait_offers_from_scope ts)) in
          let size : length ts ≡ length front + length o.after = sym (length-offers ts) ∙ ap length whole ∙ length-append front o.after in
          let f = fits_front (inherent_offers q) p.over (subst (Fits q) p.before_is o.fits) in
          let g = fits_with_scope front f from_scope (omega arith) in
          let same : inherent_offers q ++ front ≡ o.before ++ (o.next ∷ []) = sym (append_assoc (inherent_offers q) p.over (o.next ∷ [])) ∙ ap (λ l. l ++ (o.next ∷ [])) (sym p.before_is) in
          absurd (fits_not_overfull _ e (subst (Fits q) same g) o.full)

  pub fits_at_steps : (ts : Scope) → Fits q (offers q ts) → Fits q (inherent_offers q)
  fits_at_steps ts f = fits_front (inherent_offers q) (trait_offers ts) f
