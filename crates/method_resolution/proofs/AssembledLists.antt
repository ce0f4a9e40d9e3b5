-- How the lists depend on the scope, and what their candidates are.
use Rattle.std.proofs.Common.{◌≡◌, ℕ, suc, ◌+◌, ◌≤◌, Bool, false, cond, not, ◌&&◌, List, [], ◌∷◌, ◌++◌, length, filter, sym, refl, ap, ◌∙◌, append-nil, arith, length-append}
use Rattle.method_resolution.specs.Types.{Candidate, CandidateKind, CandidateStep, Form, InherentImplCandidate, None, ObjectCandidate, Option, Place, Some, TraitCandidate, WhereClauseCandidate}
use Rattle.std.specs.List.{AllByRecursion as All, flat_map}
use Rattle.std.proofs.lemmas.List.Elements.{filter-append}
use Rattle.std.proofs.lemmas.Grind.{flat_map-append}
use Rattle.host.specs.Meaning.{Meaning, listed, supers_of}
use Rattle.host.specs.declared.forms.ContainerKind.TheVariants.{Trait}
use Rattle.host.specs.declared.forms.Form.TheVariants as form
use Rattle.method_resolution.specs.Questions.{Question, Scope}
use Rattle.method_resolution.specs.Offers.{Offer, offers_as, object_offers, own_offers, stray_offers, bound_offers, offers_by_form, step_offers, once, same_impl, inherent_offers, trait_offers, offers, is_impl}
use Rattle.method_resolution.specs.Assembly.{ListName, inherent, extension, private, offered_place, container_kind, candidate_at, candidate_of, is_trait_candidate, is_visible, goes_on, candidates_on, impls_met}
use Rattle.method_resolution.specs.Places.{applies, applying}
use Rattle.method_resolution.proofs.ListFacts.{all_append, all_filter, filter_shorter}

-- what the offers give, one behind another (for `applying_extension`)
filter-flat_map : {X Y : Type 0} (test : Y → Bool) (f : X → List Y) (xs : List X) → filter test (flat_map f xs) ≡ flat_map (λ x. filter test (f x)) xs
filter-flat_map test f [] = refl
filter-flat_map test f (x ∷ xs) = filter-append test (f x) (flat_map f xs) ∙ ap (λ l. filter test (f x) ++ l) (filter-flat_map test f xs)

all_flat_map : {X Y : Type 0} (P : Y → Type 0) (f : X → List Y) → ((x : X) → All P (f x)) → (xs : List X) → All P (flat_map f xs)
all_flat_map P f h [] = tt
all_flat_map P f h (x ∷ xs) = all_append P (f x) (flat_map f xs) (h x) (all_flat_map P f h xs)

-- offers of traits in scope, and other offers
abbrev pub FromScope : Offer → Type 0
FromScope o = o.kind ≡ TraitCandidate

abbrev pub FromStep : Offer → Type 0
FromStep o = is_trait_candidate o.kind ≡ false

offers_as_all : (P : Offer → Type 0) (k : CandidateKind) → ((c : ℕ) → P (record { container = c; kind = k })) → (cs : List ℕ) → All P (offers_as k cs)
offers_as_all P k h [] = tt
offers_as_all P k h (c ∷ cs) = (h c, offers_as_all P k h cs)

module _ (m : Meaning) (s : CandidateStep) where
  objects_from_step : All FromStep (object_offers m s)
  objects_from_step = offers_as_all FromStep (ObjectCandidate s.self_ty) (λ c. refl) (supers_of m (m.form s.self_ty).definition)

  own_from_step : All FromStep (own_offers m s)
  own_from_step = offers_as_all FromStep (InherentImplCandidate s.autoderefs) (λ c. refl) (listed (m.own s.self_ty))

  stray_from_step : All FromStep (stray_offers m s)
  stray_from_step = offers_as_all FromStep (InherentImplCandidate s.autoderefs) (λ c. refl) (listed (m.stray s.self_ty))

  bounds_from_step : All FromStep (bound_offers m s)
  bounds_from_step = offers_as_all FromStep (WhereClauseCandidate s.self_ty) (λ c. refl) (listed (m.bound s.self_ty))

  impls_from_step : All FromStep (own_offers m s ++ stray_offers m s)
  impls_from_step = all_append FromStep (own_offers m s) (stray_offers m s) own_from_step stray_from_step

  by_form_from_step : (f : Form) → All FromStep (offers_by_form m s f)
  by_form_from_step form.Other = tt
  by_form_from_step form.Dynamic = all_append FromStep (object_offers m s) (own_offers m s ++ stray_offers m s) objects_from_step impls_from_step
  by_form_from_step form.Adt = impls_from_step
  by_form_from_step form.Foreign = impls_from_step
  by_form_from_step form.Param = bounds_from_step
  by_form_from_step form.Plain = stray_from_step
  by_form_from_step form.Array = stray_from_step
  by_form_from_step form.RawPtrMut = stray_from_step
  by_form_from_step form.Ref = stray_from_step
  by_form_from_step form.RefMut = stray_from_step
  by_form_from_step form.RawPtrConst = stray_from_step

once_all : (P : Offer → Type 0) (os : List Offer) → All P os → All P (once os)
once_all P [] a = tt
once_all P (o ∷ os) a = (a.0, all_filter (λ p. not (same_impl o p)) P (once os) (once_all P os a.1))

pub inherent_from_step : (q : Question) → All FromStep (inherent_offers q)
unfolding inherent_offers
inherent_from_step q = once_all FromStep _ (all_flat_map FromStep (step_offers q.meaning) (λ s. by_form_from_step q.meaning s _) q.steps)

pub trait_offers_from_scope : (ts : Scope) → All FromScope (trait_offers ts)
trait_offers_from_scope ts = offers_as_all FromScope TraitCandidate (λ c. refl) ts

module _ (q : Question) where
  pub candidates_on-append : (l : ListName) (os ps : List Offer) → candidates_on q l (os ++ ps) ≡ candidates_on q l os ++ candidates_on q l ps
  unfolding candidates_on
  candidates_on-append l os ps = ap (filter (goes_on q l)) (flat_map-append (candidate_of q) os ps) ∙ filter-append (goes_on q l) (flat_map (candidate_of q) os) (flat_map (candidate_of q) ps)

  -- a list takes nothing from offers whose candidate it does not take
  takes_nothing : (l : ListName) (P : Offer → Type 0) → ((o : Offer) → P o → (c : Candidate) → c.kind ≡ o.kind → goes_on q l c ≡ false) → (os : List Offer) → All P os → candidates_on q l os ≡ []
  unfolding candidates_on
  takes_nothing l P h [] a = refl
  takes_nothing l P h (o ∷ os) a =
      filter-append (goes_on q l) (candidate_of q o) (flat_map (candidate_of q) os)
      ∙ ap (λ r. r ++ filter (goes_on q l) (flat_map (candidate_of q) os)) (one (offered_place q (container_kind o.kind) o.container) (h o a.0))
      ∙ takes_nothing l P h os a.1
    where
      one : (r : Option ℕ) → ((c : Candidate) → c.kind ≡ o.kind → goes_on q l c ≡ false) → filter (goes_on q l) (candidate_at o r) ≡ []
      one None k = refl
      one (Some p) k = ap (λ b. cond b (candidate_at o (Some p)) []) (k _ refl)

  pub extension_from_steps : (os : List Offer) → All FromStep os → candidates_on q extension os ≡ []
  extension_from_steps os a = takes_nothing extension FromStep (λ o h c e. ap is_trait_candidate e ∙ h) os a

  pub inherent_from_scope : (os : List Offer) → All FromScope os → candidates_on q inherent os ≡ []
  inherent_from_scope os a = takes_nothing inherent FromScope (λ o h c e. ap (λ k. not (is_trait_candidate k) && is_visible q c) (e ∙ h)) os a

  pub private_from_scope : (os : List Offer) → All FromScope os → candidates_on q private os ≡ []
  private_from_scope os a = takes_nothing private FromScope (λ o h c e. ap (λ k. not (is_trait_candidate k) && not (is_visible q c)) (e ∙ h)) os a

  -- What each list holds, up to `applying_extension`. Nothing cites these yet: they are for the pick, which is still to come.
  pub inherent_list : (ts : Scope) → candidates_on q inherent (offers q ts) ≡ candidates_on q inherent (inherent_offers q)
  inherent_list ts = candidates_on-append inherent (inherent_offers q) (trait_offers ts) ∙ ap (λ l. candidates_on q inherent (inherent_offers q) ++ l) (inherent_from_scope (trait_offers ts) (trait_offers_from_scope ts)) ∙ append-nil _

  pub private_list : (ts : Scope) → candidates_on q private (offers q ts) ≡ candidates_on q private (inherent_offers q)
  private_list ts = candidates_on-append private (inherent_offers q) (trait_offers ts) ∙ ap (λ l. candidates_on q private (inherent_offers q) ++ l) (private_from_scope (trait_offers ts) (trait_offers_from_scope ts)) ∙ append-nil _

  pub extension_list : (ts : Scope) → candidates_on q extension (offers q ts) ≡ candidates_on q extension (trait_offers ts)
  extension_list ts = candidates_on-append extension (inherent_offers q) (trait_offers ts) ∙ ap (λ l. l ++ candidates_on q extension (trait_offers ts)) (extension_from_steps (inherent_offers q) (inherent_from_step q))

  abbrev pub trait_offer : ℕ → Offer
  trait_offer t = record { container = t; kind = TraitCandidate }

  -- a trait's candidates that apply at a place: one or none
  abbrev pub applying_of : Place → ℕ → List Candidate
  applying_of p t = filter (applies q p) (candidate_of q (trait_offer t))

  extension_of_traits : (ts : Scope) → candidates_on q extension (trait_offers ts) ≡ flat_map (λ t. candidate_of q (trait_offer t)) ts
  unfolding candidates_on
  extension_of_traits [] = refl
  extension_of_traits (t ∷ ts) =
      filter-append (goes_on q extension) (candidate_of q (trait_offer t)) (flat_map (candidate_of q) (trait_offers ts))
      ∙ ap (λ l. l ++ filter (goes_on q extension) (flat_map (candidate_of q) (trait_offers ts))) (one (offered_place q Trait t))
      ∙ ap (λ l. candidate_of q (trait_offer t) ++ l) (extension_of_traits ts)
    where
      one : (r : Option ℕ) → filter (goes_on q extension) (candidate_at (trait_offer t) r) ≡ candidate_at (trait_offer t) r
      one None = refl
      one (Some p) = refl

  pub applying_extension : (ts : Scope) (p : Place) → applying q ts extension p ≡ flat_map (applying_of p) ts
  applying_extension ts p = ap (filter (applies q p)) (extension_list ts ∙ extension_of_traits ts) ∙ filter-flat_map (applies q p) (λ t. candidate_of q (trait_offer t)) ts

  -- The item is the one that its container offers.
  abbrev pub Offered : Candidate → Type 0
  Offered c = offered_place q c.item.kind c.item.container ≡ Some c.item.place

  candidate_offered : (o : Offer) (r : Option ℕ) → offered_place q (container_kind o.kind) o.container ≡ r → All Offered (candidate_at o r)
  candidate_offered o None e = tt
  candidate_offered o (Some p) e = (e, tt)

  pub list_offered : (l : ListName) (os : List Offer) → All Offered (candidates_on q l os)
  unfolding candidates_on
  list_offered l os = all_filter (goes_on q l) Offered _ (all_flat_map Offered (candidate_of q) (λ o. candidate_offered o _ refl) os)

  pub applying_offered : (ts : Scope) (l : ListName) (p : Place) → All Offered (applying q ts l p)
  applying_offered ts l p = all_filter (applies q p) Offered _ (list_offered l (offers q ts))

  -- so a trait's candidates have one item
  pub one_item : (c d : Candidate) → Offered c → Offered d → c.item.kind ≡ d.item.kind → c.item.container ≡ d.item.container → c.item ≡ d.item
  one_item c d a b e f =
      let g : Some c.item.place ≡ Some d.item.place = sym a ∙ ap (λ k. offered_place q k c.item.container) e ∙ ap (offered_place q d.item.kind) f ∙ b in
      let h : c.item.place ≡ d.item.place = cc in
      λ i. record { kind = e i; container = f i; place = h i }

  -- A trait's candidate at a place is of that trait. Nothing cites this yet: it is for the pick, which is still to come.
  pub applying_of_trait : (p : Place) (t : ℕ) → All (λ (c : Candidate). (c.item.kind ≡ Trait) × (c.item.container ≡ t)) (applying_of p t)
  applying_of_trait p t = all_filter (applies q p) _ _ (one (offered_place q Trait t))
    where
      one : (r : Option ℕ) → All (λ (c : Candidate). (c.item.kind ≡ Trait) × (c.item.container ≡ t)) (candidate_at (trait_offer t) r)
      one None = tt
      one (Some n) = ((refl, refl), tt)

  -- no more candidates than offers
  flat_map_few : (os : List Offer) → length (flat_map (candidate_of q) os) ≤ length os
  flat_map_few [] = omega arith
  flat_map_few (o ∷ os) = step (offered_place q (container_kind o.kind) o.container) (flat_map_few os)
    where
      step : (r : Option ℕ) → length (flat_map (candidate_of q) os) ≤ length os → length (candidate_at o r ++ flat_map (candidate_of q) os) ≤ suc (length os)
      step None h = omega arith
      step (Some p) h = omega arith

  pub few_candidates : (l : ListName) (os : List Offer) → length (candidates_on q l os) ≤ length os
  unfolding candidates_on
  few_candidates l os =
      let h = filter_shorter (goes_on q l) (flat_map (candidate_of q) os) in
      let k = flat_map_few os in
      omega arith

pub impls_met-append : (os ps : List Offer) → impls_met (os ++ ps) ≡ impls_met os + impls_met ps
unfolding impls_met
impls_met-append os ps = ap length (filter-append (λ (o : Offer). is_impl o.kind) os ps) ∙ length-append (filter (λ (o : Offer). is_impl o.kind) os) (filter (λ (o : Offer). is_impl o.kind) ps)

pub no_impls_from_scope : (os : List Offer) → All FromScope os → impls_met os ≡ 0
unfolding impls_met
no_impls_from_scope [] a = refl
no_impls_from_scope (o ∷ os) a = ap (λ b. length (cond b (o ∷ filter (λ (p : Offer). is_impl p.kind) os) (filter (λ (p : Offer). is_impl p.kind) os))) (ap is_impl a.0) ∙ no_impls_from_scope os a.1
