-- Offers one behind another.
use Rattle.std.specs.List.{flat_map}
use Rattle.std.proofs.Common.{◌≡◌, ℕ, ◌+◌, ◌-◌, ◌<◌, ◌≤◌, cond, List, [], ◌∷◌, ◌++◌, length, get_or, take, drop, sym, ap, ◌∙◌, subst, append_assoc, append-nil, arith}
use Rattle.std.proofs.lemmas.List.{map-append, take_more, take-append-drop}
use Rattle.std.proofs.lemmas.Result.{err_from_is_err_and}
use Rattle.std.specs.Result.{IsErrAnd}
use Rattle.host.specs.Meaning.{listed, listed_from, joined, supers_of}
use Rattle.method_resolution.specs.Types.{Err, None, Ok, Option, Refusal, Result, Some}
use Rattle.host.specs.declared.forms.Form.TheVariants.{Dynamic}
use Rattle.host.specs.declared.forms.TypeForm.{TypeForm}
use Rattle.method_resolution.specs.declared.CandidateKind.{CandidateKind}
use Rattle.method_resolution.specs.declared.CandidateKind.TheVariants.{ObjectCandidate}
use Rattle.method_resolution.specs.declared.CandidateStep.{CandidateStep}
use Rattle.method_resolution.specs.Questions.{Question}
use Rattle.method_resolution.specs.Offers.{Offer, offers_as, own_offers, stray_offers, offers_by_form, step_offers, once}
use Rattle.method_resolution.specs.Assembly.{Overfills}
use Rattle.std.proofs.lemmas.List.Concat.{flat_map-append}
use Rattle.method_resolution.proofs.OneMore.{met_before, once_more, overfills_more, listed_next}
use Rattle.assembly.specs.declared.lists.CandidateLists.{CandidateLists}
use Rattle.assembly.specs.Growth.{offer_of, Holds, Grows}

-- what comes behind leaves the front
once_front : (xs ys : List Offer) → (zs : List Offer) × (once (xs ++ ys) ≡ once xs ++ zs)
once_front xs [] = ([], ap once (append-nil xs) ∙ sym (append-nil (once xs)))
once_front xs (y ∷ ys) =
    let r = once_front (xs ++ (y ∷ [])) ys in (
      cond (met_before y xs) [] (y ∷ []) ++ r.0,
      ap once (sym (append_assoc xs (y ∷ []) ys)) ∙ r.1 ∙ ap (λ l. l ++ r.0) (once_more xs y) ∙ append_assoc (once xs) (cond (met_before y xs) [] (y ∷ [])) r.0,
    )

pub refused_stays : (q : Question) (xs ys : List Offer) (e : Refusal) → Overfills q (once xs) e → Overfills q (once (xs ++ ys)) e
refused_stays q xs ys e o = let r = once_front xs ys in subst (λ os. Overfills q os e) (sym r.1) (overfills_more q (once xs) r.0 e o)

-- the first of these offers that is too many refuses
abbrev pub Refuses : Question → CandidateLists → List Offer → Refusal → Type 0
Refuses q before more e = (offered : List Offer) → Holds q offered before → Overfills q (once (offered ++ more)) e

-- what `?` returns, at a refusal
pub refusal_returned : (q : Question) (before after : CandidateLists) (more : List Offer) (r : Result (Unit {0}) Refusal) (e : Refusal)
    → IsErrAnd r (λ y. y ≡ e) → Refuses q before more e → Grows q before more r after
refusal_returned q before after more r e is g = let p = err_from_is_err_and r is in rw (p.1, p.2) g

-- one growth behind another
module _ (q : Question) (before : CandidateLists) (xs ys : List Offer) where
  pub grows_then : (mid : CandidateLists) → Grows q before xs (Ok tt) mid → (r : Result (Unit {0}) Refusal) (after : CandidateLists) → Grows q mid ys r after → Grows q before (xs ++ ys) r after
  grows_then mid g (Ok u) after k offered h = subst (λ os. Holds q os after) (append_assoc offered xs ys) (k (offered ++ xs) (g offered h))
  grows_then mid g (Err e) after k offered h = subst (λ os. Overfills q (once os) e) (append_assoc offered xs ys) (k (offered ++ xs) (g offered h))

  -- a refusal stays, whatever would come behind
  pub grows_refused : (e : Refusal) → Refuses q before xs e → Refuses q before (xs ++ ys) e
  grows_refused e g offered h = subst (λ os. Overfills q (once os) e) (append_assoc offered xs ys) (refused_stays q (offered ++ xs) ys e (g offered h))

-- How far a list has been offered: the containers in front, and those from place p on.
pub record OfferedUpTo (q : Question) (f : ℕ → Option ℕ) (kind : CandidateKind) (p : ℕ) (before lists : CandidateLists) : Type 0 where
  pub front : List ℕ
  pub are : listed f ≡ front ++ listed_from f p (64 - p)
  pub grows : Grows q before (offers_as kind front) (Ok tt) lists

module _ (q : Question) (f : ℕ → Option ℕ) (kind : CandidateKind) (before : CandidateLists) where
  module _ (p : ℕ) (lists : CandidateLists) (m : OfferedUpTo q f kind p before lists) where
    offered_all : listed_from f p (64 - p) ≡ [] → Grows q before (offers_as kind (listed f)) (Ok tt) lists
    offered_all e = subst (λ l. Grows q before (offers_as kind l) (Ok tt) lists) (sym (m.are ∙ ap (λ l. m.front ++ l) e ∙ append-nil m.front)) m.grows

    pub offered_to_absent : p < 64 → None ≡ f p → Grows q before (offers_as kind (listed f)) (Ok tt) lists
    offered_to_absent h e = offered_all (listed_next f p h ∙ ap (λ o. joined o (listed_from f (p + 1) (64 - (p + 1)))) (sym e))

    pub offered_to_end : 64 ≤ p → Grows q before (offers_as kind (listed f)) (Ok tt) lists
    unfolding listed_from
    offered_to_end h = let e : 64 - p ≡ 0 = omega arith in offered_all (ap (listed_from f p) e)

    module _ (h : p < 64) (i : ℕ) (e : Some i ≡ f p) where
      are_more : listed f ≡ (m.front ++ (i ∷ [])) ++ listed_from f (p + 1) (64 - (p + 1))
      are_more = m.are ∙ ap (λ l. m.front ++ l) (listed_next f p h ∙ ap (λ o. joined o (listed_from f (p + 1) (64 - (p + 1)))) (sym e)) ∙ sym (append_assoc m.front (i ∷ []) (listed_from f (p + 1) (64 - (p + 1))))

      offers_more : offers_as kind m.front ++ (offer_of kind i ∷ []) ≡ offers_as kind (m.front ++ (i ∷ []))
      offers_more = sym (map-append (offer_of kind) m.front (i ∷ []))

      pub offered_more : (after : CandidateLists) → Grows q lists (offer_of kind i ∷ []) (Ok tt) after → OfferedUpTo q f kind (p + 1) before after
      offered_more after k = record {
        front = m.front ++ (i ∷ []);
        are = are_more;
        grows = subst (λ os. Grows q before os (Ok tt) after) offers_more (grows_then q before (offers_as kind m.front) (offer_of kind i ∷ []) lists m.grows (Ok tt) after k);
      }

      pub offered_refused : (x : Refusal) → Refuses q lists (offer_of kind i ∷ []) x → Refuses q before (offers_as kind (listed f)) x
      offered_refused x k =
          let one : Refuses q before (offers_as kind (m.front ++ (i ∷ []))) x =
          subst (λ os. Refuses q before os x) offers_more (grows_then q before (offers_as kind m.front) (offer_of kind i ∷ []) lists m.grows (Err x) lists k) in
          subst (λ os. Refuses q before os x) (sym (map-append (offer_of kind) (m.front ++ (i ∷ [])) (listed_from f (p + 1) (64 - (p + 1)))) ∙ ap (offers_as kind) (sym are_more))
          (grows_refused q before (offers_as kind (m.front ++ (i ∷ []))) (offers_as kind (listed_from f (p + 1) (64 - (p + 1)))) x one)

-- what a step to an object offers
module _ (q : Question) (step : CandidateStep) (before : CandidateLists) (ty : TypeForm) (is : ty ≡ q.meaning.form step.self_ty) (object : ty.form ≡ Dynamic) where
  all_offers : offers_as (ObjectCandidate step.self_ty) (supers_of q.meaning ty.definition) ++ (own_offers q.meaning step ++ stray_offers q.meaning step) ≡ step_offers q.meaning step
  all_offers =
      ap (λ (t : TypeForm). offers_as (ObjectCandidate step.self_ty) (supers_of q.meaning t.definition) ++ (own_offers q.meaning step ++ stray_offers q.meaning step)) is
      ∙ ap (offers_by_form q.meaning step) (sym object ∙ ap (λ (t : TypeForm). t.form) is)

  pub object_refused : (x : Refusal) → Refuses q before (offers_as (ObjectCandidate step.self_ty) (supers_of q.meaning ty.definition)) x → Refuses q before (step_offers q.meaning step) x
  object_refused x g = subst (λ os. Refuses q before os x) all_offers (grows_refused q before _ _ x g)

  pub object_grown : (mid : CandidateLists) → Grows q before (offers_as (ObjectCandidate step.self_ty) (supers_of q.meaning ty.definition)) (Ok tt) mid
      → (r : Result (Unit {0}) Refusal) (after : CandidateLists) → Grows q mid (own_offers q.meaning step ++ stray_offers q.meaning step) r after → Grows q before (step_offers q.meaning step) r after
  object_grown mid g r after k = subst (λ os. Grows q before os r after) all_offers (grows_then q before _ _ mid g r after k)

-- the offers of one step more
module _ (q : Question) (before : CandidateLists) (i : ℕ) (d : CandidateStep) (in-range : i < length q.steps) where
  one_step_more : flat_map (step_offers q.meaning) (take (i + 1) q.steps) ≡ flat_map (step_offers q.meaning) (take i q.steps) ++ step_offers q.meaning (get_or q.steps i d)
  one_step_more =
      ap (flat_map (step_offers q.meaning)) (take_more q.steps i d in-range) ∙ flat_map-append (step_offers q.meaning) (take i q.steps) (get_or q.steps i d ∷ [])
      ∙ ap (λ l. flat_map (step_offers q.meaning) (take i q.steps) ++ l) (append-nil (step_offers q.meaning (get_or q.steps i d)))

  all_steps : flat_map (step_offers q.meaning) q.steps ≡ flat_map (step_offers q.meaning) (take (i + 1) q.steps) ++ flat_map (step_offers q.meaning) (drop (i + 1) q.steps)
  all_steps = ap (flat_map (step_offers q.meaning)) (sym (take-append-drop (i + 1) q.steps)) ∙ flat_map-append (step_offers q.meaning) (take (i + 1) q.steps) (drop (i + 1) q.steps)

  module _ (mid : CandidateLists) (g : Grows q before (flat_map (step_offers q.meaning) (take i q.steps)) (Ok tt) mid) where
    pub step_refused : (x : Refusal) → Refuses q mid (step_offers q.meaning (get_or q.steps i d)) x → Refuses q before (flat_map (step_offers q.meaning) q.steps) x
    step_refused x k =
        let one : Refuses q before (flat_map (step_offers q.meaning) (take (i + 1) q.steps)) x = subst (λ os. Refuses q before os x) (sym one_step_more) (grows_then q before _ _ mid g (Err x) mid k) in
        subst (λ os. Refuses q before os x) (sym all_steps) (grows_refused q before _ _ x one)
