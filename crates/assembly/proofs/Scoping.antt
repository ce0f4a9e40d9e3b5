-- The traits in scope are offered one behind another, and never too many.
use Rattle.std.proofs.Common.{◌≡◌, ℕ, ◌+◌, ◌<◌, ◌≤◌, List, [], ◌∷◌, ◌++◌, length, get_or, take, sym, refl, ap, ◌∙◌, subst, append_assoc, append-nil, arith}
use Rattle.std.proofs.lemmas.List.{length-map, map-append, take_more, length-take-le}
use Rattle.scope.specs.Entries.{traits_of}
use Rattle.scope.specs.declared.entries.Entry.{Entry}
use Rattle.method_resolution.specs.Types.{Err, Ok, Refusal, Result}
use Rattle.method_resolution.specs.declared.CandidateKind.TheVariants.{TraitCandidate}
use Rattle.method_resolution.specs.Questions.{Question, Scope}
use Rattle.method_resolution.specs.Offers.{Offer, once, inherent_offers, trait_offers, offers}
use Rattle.method_resolution.specs.Assembly.{candidates_on, impls_met, Fits, Overfills}
use Rattle.method_resolution.proofs.OneMore.{overfills_more}
use Rattle.method_resolution.proofs.Overfilling.{fits_any_scope, fits_at_steps, fits_not_overfills}
use Rattle.assembly.specs.declared.lists.CandidateLists.{CandidateLists}
use Rattle.assembly.specs.Growth.{ListsHold, offer_of, Holds, Grows}
use Rattle.assembly.specs.Assembled.{by_steps, ScopeHolds, Fresh, Assembled}
use Rattle.assembly.proofs.Offering.{new_trait}

module _ (q : Question) where
  once_traits : (os : List Offer) (ts : Scope) → once (os ++ trait_offers ts) ≡ once os ++ trait_offers ts
  once_traits os [] = ap once (append-nil os) ∙ sym (append-nil (once os))
  once_traits os (t ∷ ts) =
      ap once (sym (append_assoc os (offer_of TraitCandidate t ∷ []) (trait_offers ts))) ∙ once_traits (os ++ (offer_of TraitCandidate t ∷ [])) ts
      ∙ ap (λ l. l ++ trait_offers ts) (new_trait q os (offer_of TraitCandidate t) refl) ∙ append_assoc (once os) (offer_of TraitCandidate t ∷ []) (trait_offers ts)

  -- the offers, each impl once
  pub once_all : (ts : Scope) → once (by_steps q ++ trait_offers ts) ≡ offers q ts
  unfolding inherent_offers
  once_all ts = once_traits (by_steps q) ts

  pub once_steps : once (by_steps q) ≡ inherent_offers q
  unfolding inherent_offers
  once_steps = refl

  never_refuses : (ts : Scope) → length ts ≤ 64 → Fits q (inherent_offers q) → (e : Refusal) → Overfills q (once (by_steps q ++ trait_offers ts)) e → ⊥
  never_refuses ts few f e o = fits_not_overfills q (offers q ts) e (fits_any_scope q ts few f) (subst (λ os. Overfills q os e) (once_all ts) o)

  module _ (es : List Entry) (few : length es ≤ 64) (i : ℕ) (d : Entry) (in-range : i < length es) where
    traits_more : traits_of (take (i + 1) es) ≡ traits_of (take i es) ++ ((get_or es i d).tr ∷ [])
    traits_more = ap traits_of (take_more es i d in-range) ∙ map-append (λ (e : Entry). e.tr) (take i es) (get_or es i d ∷ [])

    offers_more : (by_steps q ++ trait_offers (traits_of (take i es))) ++ (offer_of TraitCandidate (get_or es i d).tr ∷ []) ≡ by_steps q ++ trait_offers (traits_of (take (i + 1) es))
    offers_more =
        append_assoc (by_steps q) (trait_offers (traits_of (take i es))) (offer_of TraitCandidate (get_or es i d).tr ∷ [])
        ∙ ap (λ l. by_steps q ++ l) (sym (map-append (offer_of TraitCandidate) (traits_of (take i es)) ((get_or es i d).tr ∷ [])) ∙ ap trait_offers (sym traits_more))

    pub scope_more : (mid : CandidateLists) → ScopeHolds q (traits_of (take i es)) mid → (r : Result (Unit {0}) Refusal) (after : CandidateLists)
        → Grows q mid (offer_of TraitCandidate (get_or es i d).tr ∷ []) r after → ScopeHolds q (traits_of (take (i + 1) es)) after
    scope_more mid h (Ok u) after g = subst (λ os. Holds q os after) offers_more (g _ h)
    scope_more mid h (Err e) after g =
        let long = length-map (take (i + 1) es) (λ (x : Entry). x.tr) in
        let short = length-take-le (i + 1) es (omega arith) in
        absurd (never_refuses (traits_of (take (i + 1) es)) (omega arith) (fits_at_steps q (traits_of (take i es)) (subst (Fits q) (once_all (traits_of (take i es))) h.fits)) e
        (subst (λ os. Overfills q (once os) e) offers_more (g _ h)))

  -- empty lists hold nothing
  pub fresh_holds : (lists : CandidateLists) → Fresh lists → Holds q [] lists
  unfolding candidates_on impls_met
  fresh_holds lists f = record {
    candidates = record { items = f.empty; rooms = f.rooms };
    met = f.no_impls;
    met_room = f.met_room;
    fits = record { impls = omega arith; candidates = λ l. omega arith };
  }

  pub assembled : (ts : Scope) (lists : CandidateLists) → ScopeHolds q ts lists → Assembled q ts (Ok tt) lists
  assembled ts lists h = (subst (λ os. ListsHold q os lists) (once_all ts) h.candidates, subst (Fits q) (once_all ts) h.fits)

  pub refused_at_steps : (ts : Scope) (e : Refusal) → Overfills q (once (by_steps q)) e → Overfills q (offers q ts) e
  refused_at_steps ts e o = overfills_more q (inherent_offers q) (trait_offers ts) e (subst (λ os. Overfills q os e) once_steps o)
