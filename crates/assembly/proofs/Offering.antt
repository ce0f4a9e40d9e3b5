-- One more container is offered: an impl that was met, a new impl, or a trait.
use Rattle.std.proofs.Common.{◌≡◌, ℕ, ◌+◌, ◌<◌, ◌≤◌, Bool, true, false, cond, ◌&&◌, ◌||◌, eqb, List, [], ◌∷◌, ◌++◌, map, length, Decides, filter, sym, refl, ap, ◌∙◌, subst, append-nil, arith}
use Rattle.std.proofs.lemmas.List.{length-map, map-append}
use Rattle.std.proofs.lemmas.List.Elements.{filter-append}
use Rattle.roll.specs.Equality.{on, Among}
use Rattle.std.specs.Result.{is_ok}
use Rattle.roll.specs.Rolls.{contents, Pushed}
use Rattle.roll.specs.declared.shape.Full.{Full}
use Rattle.roll.specs.declared.shape.Roll.{Roll}
use Rattle.roll.proofs.Sameness.{on_from_has}
use Rattle.method_resolution.specs.Types.{Err, Ok, Refusal, Result, TooManyCandidates, TooManyImpls}
use Rattle.method_resolution.specs.declared.CandidateKind.{CandidateKind}
use Rattle.method_resolution.specs.declared.CandidateKind.TheVariants.{InherentImplCandidate, ObjectCandidate, TraitCandidate, WhereClauseCandidate}
use Rattle.method_resolution.specs.Questions.{Question}
use Rattle.method_resolution.specs.Offers.{Offer, once, is_impl}
use Rattle.method_resolution.specs.Assembly as assembly
use Rattle.method_resolution.specs.Assembly.{ListName, candidates_on, impls_met, Fits, Overfills}
use Rattle.method_resolution.proofs.AssembledLists.{impls_met-append}
use Rattle.method_resolution.proofs.OneMore.{met_before, once_more, overfills_now}
use Rattle.assembly.specs.declared.lists.CandidateLists.{CandidateLists}
use Rattle.assembly.specs.Growth.{room, list_of, ListsHold, Added, impl_offer, impl_numbers, Holds, Grown}
use Rattle.assembly.proofs.Growing.{one_more, full}
use Rattle.assembly.proofs.MetBefore.{numbers_met}

length-numbers : (os : List Offer) → length (impl_numbers os) ≡ impls_met os
unfolding impls_met
length-numbers os = length-map (filter (λ (o : Offer). is_impl o.kind) os) (λ (o : Offer). o.container)

numbers-append : (os ps : List Offer) → impl_numbers (os ++ ps) ≡ impl_numbers os ++ impl_numbers ps
numbers-append os ps =
    ap (map (λ (o : Offer). o.container)) (filter-append (λ (o : Offer). is_impl o.kind) os ps)
    ∙ map-append (λ (o : Offer). o.container) (filter (λ (o : Offer). is_impl o.kind) os) (filter (λ (o : Offer). is_impl o.kind) ps)

pub few_on_lists : (q : Question) (os : List Offer) (lists : CandidateLists) → ListsHold q os lists → (l : ListName) → length (candidates_on q l os) ≤ 64
few_on_lists q os lists h l =
    let memory = h.rooms l in
    let long = ap length (h.items l) in
    omega arith

-- the lists stay when only the impls met change
pub lists_stay : (q : Question) (os : List Offer) (before mid : CandidateLists)
    → mid.inherent_candidates ≡ before.inherent_candidates → mid.extension_candidates ≡ before.extension_candidates → mid.private_candidates ≡ before.private_candidates
    → ListsHold q os before → ListsHold q os mid
lists_stay q os before mid i e p h = record { items = λ l. ap contents (same l) ∙ h.items l; rooms = λ l. ap room (same l) ∙ h.rooms l }
  where
    same : (l : ListName) → list_of l mid ≡ list_of l before
    same assembly.inherent = i
    same assembly.extension = e
    same assembly.private = p

module _ (q : Question) (offered : List Offer) (o : Offer) where
  -- an offer that comes to the end
  module _ (lists : CandidateLists) (h : Holds q offered lists) (new : once (offered ++ (o ∷ [])) ≡ once offered ++ (o ∷ [])) where
    -- A list would pass its limit.
    refused : impls_met (once offered ++ (o ∷ [])) ≤ 256 → (e : Refusal) (l : ListName) → e ≡ TooManyCandidates → 64 < length (candidates_on q l (once offered ++ (o ∷ []))) → Overfills q (once (offered ++ (o ∷ []))) e
    refused few e l is more =
        subst (λ y. Overfills q (once (offered ++ (o ∷ []))) y) (sym is)
        (subst (λ os. Overfills q os TooManyCandidates) (sym new) (overfills_now q (once offered) o TooManyCandidates h.fits (assembly.candidates few l more)))

    grown : (after : CandidateLists) → impls_met (once offered ++ (o ∷ [])) ≤ 256 → ListsHold q (once offered ++ (o ∷ [])) after
        → contents after.impl_dups ≡ impl_numbers (once offered ++ (o ∷ [])) → room after.impl_dups ≡ 256 → Holds q (offered ++ (o ∷ [])) after
    grown after few held met memory = record {
      candidates = subst (λ os. ListsHold q os after) (sym new) held;
      met = met ∙ ap impl_numbers (sym new);
      met_room = memory;
      fits = subst (Fits q) (sym new) (record { impls = few; candidates = few_on_lists q (once offered ++ (o ∷ [])) after held });
    }

module _ (q : Question) (offered : List Offer) (i n : ℕ) (lists : CandidateLists) (h : Holds q offered lists) where
  was_met : (b : Bool) → Decides b (Among eqb (contents lists.impl_dups) i) → met_before (impl_offer i n) offered ≡ b
  was_met b d = sym (numbers_met (impl_offer i n) refl offered) ∙ ap (λ l. on eqb l i) (sym h.met) ∙ sym (on_from_has eqb (contents lists.impl_dups) i b d)

  -- an impl that was met changes nothing
  pub grown_by_repeat : Decides true (Among eqb (contents lists.impl_dups) i) → Holds q (offered ++ (impl_offer i n ∷ [])) lists
  grown_by_repeat d =
      let same : once (offered ++ (impl_offer i n ∷ [])) ≡ once offered =
      once_more offered (impl_offer i n) ∙ ap (λ b. once offered ++ cond b [] (impl_offer i n ∷ [])) (was_met true d) ∙ append-nil (once offered) in
      record {
        candidates = subst (λ os. ListsHold q os lists) (sym same) h.candidates;
        met = h.met ∙ ap impl_numbers (sym same);
        met_room = h.met_room;
        fits = subst (Fits q) (sym same) h.fits;
      }

  module _ (d : Decides false (Among eqb (contents lists.impl_dups) i)) where
    new_impl : once (offered ++ (impl_offer i n ∷ [])) ≡ once offered ++ (impl_offer i n ∷ [])
    new_impl = once_more offered (impl_offer i n) ∙ ap (λ b. once offered ++ cond b [] (impl_offer i n ∷ [])) (was_met false d)

    one_impl : impls_met (once offered ++ (impl_offer i n ∷ [])) ≡ length (contents lists.impl_dups) + 1
    unfolding impls_met
    one_impl = impls_met-append (once offered) (impl_offer i n ∷ []) ∙ ap (λ k. k + 1) (sym (ap length h.met ∙ length-numbers (once offered)))

    -- a 257th impl
    pub refused_impl : (met : Roll ℕ) (r : Result (Unit {0}) Full) → is_ok r ≡ false → Pushed lists.impl_dups i r met → Overfills q (once (offered ++ (impl_offer i n ∷ []))) TooManyImpls
    refused_impl met r e p =
        let none = full lists.impl_dups met i r e p in
        let memory = h.met_room in
        let one = one_impl in
        subst (λ os. Overfills q os TooManyImpls) (sym new_impl) (overfills_now q (once offered) (impl_offer i n) TooManyImpls h.fits (assembly.impls (omega arith)))

    module _ (met : Roll ℕ) (pushed : Result (Unit {0}) Full) (ok : is_ok pushed ≡ true) (p : Pushed lists.impl_dups i pushed met) where
      few_impls : impls_met (once offered ++ (impl_offer i n ∷ [])) ≤ 256
      few_impls =
          let some = (one_more lists.impl_dups met i pushed ok p).0 in
          let memory = h.met_room in
          let one = one_impl in
          omega arith

      pub grown_by_impl : (r : Result (Unit {0}) Refusal) (after : CandidateLists) → Added q (once offered) (impl_offer i n) met r after → Grown q (offered ++ (impl_offer i n ∷ [])) r after
      grown_by_impl (Ok u) after a =
          let m = one_more lists.impl_dups met i pushed ok p in
          grown q offered (impl_offer i n) lists h new_impl after few_impls a.0
          (ap contents a.1 ∙ m.1 ∙ ap (λ l. l ++ (i ∷ [])) h.met ∙ sym (numbers-append (once offered) (impl_offer i n ∷ []))) (ap room a.1 ∙ m.2 ∙ h.met_room)
      grown_by_impl (Err e) after a = refused q offered (impl_offer i n) lists h new_impl few_impls e a.1.0 a.0 a.1.1

-- an offer that is no impl
module _ (q : Question) (offered : List Offer) (o : Offer) (other : is_impl o.kind ≡ false) where
  never_met : (ps : List Offer) → met_before o ps ≡ false
  never_met [] = refl
  never_met (p ∷ ps) = ap (λ b. (is_impl p.kind && (b && eqb p.container o.container)) || met_before o ps) other ∙ step (is_impl p.kind) (never_met ps)
    where
      step : (b : Bool) → met_before o ps ≡ false → (b && false) || met_before o ps ≡ false
      step true e = e
      step false e = e

  pub new_trait : once (offered ++ (o ∷ [])) ≡ once offered ++ (o ∷ [])
  new_trait = once_more offered o ∙ ap (λ b. once offered ++ cond b [] (o ∷ [])) (never_met offered)

  no_number : impl_numbers (o ∷ []) ≡ []
  no_number = ap (λ b. map (λ (p : Offer). p.container) (cond b (o ∷ []) [])) other

  same_numbers : impl_numbers (once offered ++ (o ∷ [])) ≡ impl_numbers (once offered)
  same_numbers = numbers-append (once offered) (o ∷ []) ∙ ap (λ l. impl_numbers (once offered) ++ l) no_number ∙ append-nil (impl_numbers (once offered))

  same_impls : impls_met (once offered ++ (o ∷ [])) ≡ impls_met (once offered)
  same_impls = sym (length-numbers (once offered ++ (o ∷ []))) ∙ ap length same_numbers ∙ length-numbers (once offered)

  pub grown_by_trait : (before : CandidateLists) → Holds q offered before → (r : Result (Unit {0}) Refusal) (after : CandidateLists) → Added q (once offered) o before.impl_dups r after → Grown q (offered ++ (o ∷ [])) r after
  grown_by_trait before h (Ok u) after a =
      grown q offered o before h new_trait after (subst (λ k. k ≤ 256) (sym same_impls) h.fits.impls) a.0 (ap contents a.1 ∙ h.met ∙ sym same_numbers) (ap room a.1 ∙ h.met_room)
  grown_by_trait before h (Err e) after a = refused q offered o before h new_trait (subst (λ k. k ≤ 256) (sym same_impls) h.fits.impls) e a.1.0 a.0 a.1.1

pub not_impl : (kind : CandidateKind) → ((steps : ℕ) → kind ≡ InherentImplCandidate steps → ⊥) → is_impl kind ≡ false
not_impl (InherentImplCandidate steps) h = absurd (h steps refl)
not_impl (ObjectCandidate origin) h = refl
not_impl TraitCandidate h = refl
not_impl (WhereClauseCandidate origin) h = refl
