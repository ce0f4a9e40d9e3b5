-- There is an answer, and only one.
use Rattle.std.proofs.Common.{◌≡◌, ◌<◌, ◌≤◌, not, ◌⊎◌, List, [], ◌∷◌, ◌++◌, length, drop, filter, sym, refl, ap, ◌∙◌, subst, inl, inr, append_assoc, append-nil, arith, length-append, length-drop}
use Rattle.std.proofs.lemmas.List.{length-map}
use Rattle.method_resolution.specs.Types.{Candidate, CandidateSource, CandidateStep, Err, ItemId, ListEntry, Ok, Pick, Place, Refusal, Result, Shadowed, Source, TooManyCandidates, TooManyImpls, Verdict}
use Rattle.std.specs.List.{AllByRecursion as All}
use Rattle.std.proofs.lemmas.Bool.{cases_lt}
use Rattle.host.specs.Law.{Lawful}
use Rattle.method_resolution.specs.Questions.{Question, Scope}
use Rattle.method_resolution.specs.Offers.{Offer, offers}
use Rattle.method_resolution.specs.Assembly as assembly
use Rattle.method_resolution.specs.Assembly.{ListName, inherent, extension, private, candidates_on, impls_met, Fits, Overfull, Overfills}
use Rattle.method_resolution.specs.Places.{applies, applying}
use Rattle.method_resolution.specs.Judgement as judgement
use Rattle.method_resolution.specs.Judgement.{pick, ambiguity, Judged, shadowed_by}
use Rattle.host.specs.Identity.{same_item}
use Rattle.method_resolution.specs.Verdicts as verdicts
use Rattle.method_resolution.specs.Verdicts.{Turn, turns, SomeApply, Undecided, Finding, Finds, Answer, Accepted, FewAutoderefs, put_in_front, told}
use Rattle.method_resolution.specs.OneAnswer.{OneAnswer}
use Rattle.method_resolution.proofs.ListFacts.{all_at, filter_shorter, first_in, first_once, first_holds}
use Rattle.method_resolution.proofs.Deciding.{finding, finding_found, by_decision}
use Rattle.method_resolution.proofs.AssembledLists.{applying_offered}
use Rattle.method_resolution.proofs.Judging.{judged_once}
use Rattle.method_resolution.proofs.Findings.{Ended, Privately, finds_cases, private_once}
use Rattle.method_resolution.proofs.Overfilling.{fits_not_overfills, overfills_once}

module _ (q : Question) where
  fits_nothing : Fits q []
  unfolding candidates_on impls_met
  fits_nothing = record { impls = omega arith; candidates = λ l. omega arith }

  -- some offers fit or are too many
  fits_or_not : (os : List Offer) → Fits q os ⊎ ((e : Refusal) × Overfull q os e)
  fits_or_not os = by_impls (cases_lt 256 (impls_met os))
    where
      by_lists : impls_met os ≤ 256 → (64 < length (candidates_on q inherent os)) ⊎ (length (candidates_on q inherent os) ≤ 64) → (64 < length (candidates_on q extension os)) ⊎ (length (candidates_on q extension os) ≤ 64)
          → (64 < length (candidates_on q private os)) ⊎ (length (candidates_on q private os) ≤ 64) → Fits q os ⊎ ((e : Refusal) × Overfull q os e)
      by_lists h (inl a) b c = inr (TooManyCandidates, assembly.candidates h inherent a)
      by_lists h (inr a) (inl b) c = inr (TooManyCandidates, assembly.candidates h extension b)
      by_lists h (inr a) (inr b) (inl c) = inr (TooManyCandidates, assembly.candidates h private c)
      by_lists h (inr a) (inr b) (inr c) = inl (record { impls = h; candidates = each })
        where
          each : (l : ListName) → length (candidates_on q l os) ≤ 64
          each inherent = a
          each extension = b
          each private = c

      by_impls : (256 < impls_met os) ⊎ (impls_met os ≤ 256) → Fits q os ⊎ ((e : Refusal) × Overfull q os e)
      by_impls (inl h) = inr (TooManyImpls, assembly.impls h)
      by_impls (inr h) = by_lists h (cases_lt 64 (length (candidates_on q inherent os))) (cases_lt 64 (length (candidates_on q extension os))) (cases_lt 64 (length (candidates_on q private os)))

  fits_or_overfills : (done rest : List Offer) → Fits q done → Fits q (done ++ rest) ⊎ ((e : Refusal) × Overfills q (done ++ rest) e)
  fits_or_overfills done [] f = inl (subst (Fits q) (sym (append-nil done)) f)
  fits_or_overfills done (o ∷ os) f = step (λ g. fits_or_overfills (done ++ (o ∷ [])) os g) (fits_or_not (done ++ (o ∷ [])))
    where
      step : (Fits q (done ++ (o ∷ [])) → Fits q ((done ++ (o ∷ [])) ++ os) ⊎ ((e : Refusal) × Overfills q ((done ++ (o ∷ [])) ++ os) e))
          → Fits q (done ++ (o ∷ [])) ⊎ ((e : Refusal) × Overfull q (done ++ (o ∷ [])) e) → Fits q (done ++ (o ∷ os)) ⊎ ((e : Refusal) × Overfills q (done ++ (o ∷ os)) e)
      step rest (inl g) = subst (λ l. Fits q l ⊎ ((e : Refusal) × Overfills q l e)) (append_assoc done (o ∷ []) os) (rest g)
      step rest (inr g) = inr (g.0, record { before = done; next = o; after = os; are = refl; fits = f; full = g.1 })

  small_or_not : (ss : List CandidateStep) → All FewAutoderefs ss ⊎ (All FewAutoderefs ss → ⊥)
  small_or_not [] = inl tt
  small_or_not (s ∷ ss) = step (cases_lt 255 s.autoderefs) (small_or_not ss)
    where
      step : (255 < s.autoderefs) ⊎ (s.autoderefs ≤ 255) → All FewAutoderefs ss ⊎ (All FewAutoderefs ss → ⊥) → All FewAutoderefs (s ∷ ss) ⊎ (All FewAutoderefs (s ∷ ss) → ⊥)
      step (inl h) r = inr (λ a. let k = a.0 in omega arith)
      step (inr h) (inl r) = inl (h, r)
      step (inr h) (inr r) = inr (λ a. r a.1)

  module _ (ts : Scope) (l : List ListEntry) where
    abbrev SomeAnswer : Type 0
    SomeAnswer = (k : List ListEntry) × ((s : Result Verdict Refusal) × Answer q ts l k s)

    some_answer : SomeAnswer
    some_answer = by_list (cases_lt (length l) 64)
      where
        by_assembly : Accepted q l → Fits q (offers q ts) ⊎ ((e : Refusal) × Overfills q (offers q ts) e) → SomeAnswer
        by_assembly a (inl f) = (put_in_front (finding q ts).entries l, (Ok (told (finding q ts)), verdicts.verdict (finding q ts) a f (finding_found q ts)))
        by_assembly a (inr o) = (l, (Err o.0, verdicts.overfull o.0 a o.1))

        by_autoderefs : 64 ≤ length l → length q.steps ≤ 32 → All FewAutoderefs q.steps ⊎ (All FewAutoderefs q.steps → ⊥) → SomeAnswer
        by_autoderefs h m (inl a) = by_assembly (record { long = h; steps = m; autoderefs = a }) (fits_or_overfills [] (offers q ts) fits_nothing)
        by_autoderefs h m (inr n) = (l, (_, verdicts.many_autoderefs h m n))

        by_steps : 64 ≤ length l → (32 < length q.steps) ⊎ (length q.steps ≤ 32) → SomeAnswer
        by_steps h (inl m) = (l, (_, verdicts.many_steps h m))
        by_steps h (inr m) = by_autoderefs h m (small_or_not q.steps)

        by_list : (length l < 64) ⊎ (64 ≤ length l) → SomeAnswer
        by_list (inl h) = (l, (_, verdicts.short_list h))
        by_list (inr h) = by_steps h (cases_lt 32 (length q.steps))

    -- no more entries than candidates on a list
    shadowed_few : (i : ItemId) (cs : List Candidate) → length (shadowed_by i cs) ≤ length cs
    shadowed_few i cs =
        let h = length-map (filter (λ (c : Candidate). not (same_item i c.item)) cs) (λ (c : Candidate). c.item) in
        let k = filter_shorter (λ (c : Candidate). not (same_item i c.item)) cs in
        omega arith

    picked_few : (p : Place) (cs : List Candidate) (k : Pick) (is : List ItemId) → Judged q p cs (pick k is) → length is ≤ length cs
    picked_few p cs k is (judgement.sole c e) = omega arith
    picked_few p cs k is (judgement.one_trait c m o i) = omega arith
    picked_few p cs k is (judgement.subtrait c m o s i a) = shadowed_few c.item cs

    sources_few : (p : Place) (cs : List Candidate) (ss : List CandidateSource) → Judged q p cs (ambiguity ss) → length ss ≤ length cs
    sources_few p cs ss (judgement.several m o s) = let h = length-map cs (judgement.source_of q p) in omega arith

    applying_few : Fits q (offers q ts) → (n : ListName) (p : Place) → length (applying q ts n p) ≤ 64
    applying_few f n p = let h = filter_shorter (applies q p) (candidates_on q n (offers q ts)) in let k = f.candidates n in omega arith

    entries_few : Fits q (offers q ts) → (f : Finding) → Finds q ts f → length f.entries ≤ 64
    entries_few fit f (verdicts.decided t k is h j) = let a = picked_few t.place _ k is j in let b = applying_few fit t.list t.place in let c = length-map is Shadowed in omega arith
    entries_few fit f (verdicts.ambiguous t ss h j) = let a = sources_few t.place _ ss j in let b = applying_few fit t.list t.place in let c = length-map ss Source in omega arith
    entries_few fit f (verdicts.hidden p k is u h j) = let a = picked_few p _ k is j in let b = applying_few fit private p in let c = length-map is Shadowed in omega arith
    entries_few fit f (verdicts.unmatched u n) = omega arith

    same_length : (k : List ListEntry) (s : Result Verdict Refusal) → Answer q ts l k s → length k ≡ length l
    same_length k s (verdicts.short_list a) = refl
    same_length k s (verdicts.many_steps a b) = refl
    same_length k s (verdicts.many_autoderefs a b c) = refl
    same_length k s (verdicts.overfull e a b) = refl
    same_length k s (verdicts.verdict f a fit found) =
        let h = entries_few fit f found in
        let m = a.long in
        let n = length-append f.entries (drop (length f.entries) l) in
        let d = length-drop (length f.entries) l in
        omega arith

    module _ (lawful : Lawful q.meaning) where
      finds_once : (f g : Finding) → Finds q ts f → Finds q ts g → f ≡ g
      finds_once f g a b = step (finds_cases q ts f a) (finds_cases q ts g b)
        where
          ended : Ended q ts f → Ended q ts g → f ≡ g
          ended x y =
              let e = first_once (SomeApply q ts) (turns q) x.turn y.turn x.decides y.decides in
              let j = subst (λ (w : Turn). Judged q w.place (applying q ts w.list w.place) y.decision) (sym e) y.judged in
              let s = judged_once q lawful x.turn.place _ (applying_offered q ts x.turn.list x.turn.place) x.decision y.decision x.judged j in
              x.is ∙ ap (by_decision q ts x.turn.place) s ∙ ap (λ (w : Turn). by_decision q ts w.place y.decision) e ∙ sym y.is

          clash : (h : Finding) → Ended q ts h → Undecided q ts → ⊥
          clash h x u = all_at (λ t. SomeApply q ts t → ⊥) (turns q) x.turn u (first_in (SomeApply q ts) (turns q) x.turn x.decides) (first_holds (SomeApply q ts) (turns q) x.turn x.decides)

          step : Ended q ts f ⊎ (Undecided q ts × Privately q (candidates_on q private (offers q ts)) f) → Ended q ts g ⊎ (Undecided q ts × Privately q (candidates_on q private (offers q ts)) g) → f ≡ g
          step (inl x) (inl y) = ended x y
          step (inl x) (inr y) = absurd (clash f x y.0)
          step (inr x) (inl y) = absurd (clash g y x.0)
          step (inr x) (inr y) = private_once q lawful (candidates_on q private (offers q ts)) (λ p. applying_offered q ts private p) f g x.1 y.1

      answer_once : (k m : List ListEntry) (r s : Result Verdict Refusal) → Answer q ts l k r → Answer q ts l m s → (m ≡ k) × (s ≡ r)
      answer_once k m r s (verdicts.short_list a) (verdicts.short_list b) = (refl, refl)
      answer_once k m r s (verdicts.short_list a) (verdicts.many_steps b c) = absurd (omega arith)
      answer_once k m r s (verdicts.short_list a) (verdicts.many_autoderefs b c d) = absurd (omega arith)
      answer_once k m r s (verdicts.short_list a) (verdicts.overfull e b c) = let h = b.long in absurd (omega arith)
      answer_once k m r s (verdicts.short_list a) (verdicts.verdict f b c d) = let h = b.long in absurd (omega arith)
      answer_once k m r s (verdicts.many_steps a x) (verdicts.short_list b) = absurd (omega arith)
      answer_once k m r s (verdicts.many_steps a x) (verdicts.many_steps b c) = (refl, refl)
      answer_once k m r s (verdicts.many_steps a x) (verdicts.many_autoderefs b c d) = absurd (omega arith)
      answer_once k m r s (verdicts.many_steps a x) (verdicts.overfull e b c) = let h = b.steps in absurd (omega arith)
      answer_once k m r s (verdicts.many_steps a x) (verdicts.verdict f b c d) = let h = b.steps in absurd (omega arith)
      answer_once k m r s (verdicts.many_autoderefs a x y) (verdicts.short_list b) = absurd (omega arith)
      answer_once k m r s (verdicts.many_autoderefs a x y) (verdicts.many_steps b c) = absurd (omega arith)
      answer_once k m r s (verdicts.many_autoderefs a x y) (verdicts.many_autoderefs b c d) = (refl, refl)
      answer_once k m r s (verdicts.many_autoderefs a x y) (verdicts.overfull e b c) = absurd (y b.autoderefs)
      answer_once k m r s (verdicts.many_autoderefs a x y) (verdicts.verdict f b c d) = absurd (y b.autoderefs)
      answer_once k m r s (verdicts.overfull d a x) (verdicts.short_list b) = let h = a.long in absurd (omega arith)
      answer_once k m r s (verdicts.overfull d a x) (verdicts.many_steps b c) = let h = a.steps in absurd (omega arith)
      answer_once k m r s (verdicts.overfull d a x) (verdicts.many_autoderefs b c y) = absurd (y a.autoderefs)
      answer_once k m r s (verdicts.overfull d a x) (verdicts.overfull e b c) = (refl, ap Err (overfills_once q (offers q ts) e d c x))
      answer_once k m r s (verdicts.overfull d a x) (verdicts.verdict f b c y) = absurd (fits_not_overfills q (offers q ts) d c x)
      answer_once k m r s (verdicts.verdict f a x y) (verdicts.short_list b) = let h = a.long in absurd (omega arith)
      answer_once k m r s (verdicts.verdict f a x y) (verdicts.many_steps b c) = let h = a.steps in absurd (omega arith)
      answer_once k m r s (verdicts.verdict f a x y) (verdicts.many_autoderefs b c d) = absurd (d a.autoderefs)
      answer_once k m r s (verdicts.verdict f a x y) (verdicts.overfull e b c) = absurd (fits_not_overfills q (offers q ts) e x c)
      answer_once k m r s (verdicts.verdict f a x y) (verdicts.verdict g b c d) =
          let e = finds_once g f d y in
          (ap (λ (h : Finding). put_in_front h.entries l) e, ap (λ (h : Finding). Ok (told h)) e)

pub one_answer : OneAnswer
one_answer q lawful ts l =
    let a = some_answer q ts l in
    record {
      after = a.0;
      result = a.1.0;
      answer = a.1.1;
      long = same_length q ts l a.0 a.1.0 a.1.1;
      only = λ k s b. answer_once q ts l lawful a.0 k a.1.0 s a.1.1 b;
    }
