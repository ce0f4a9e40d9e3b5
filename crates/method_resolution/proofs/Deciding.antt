-- A verdict can be computed.
use Rattle.std.proofs.Common.{◌≡◌, ℕ, ◌<◌, Bool, true, false, ◌&&◌, eqb, List, [], ◌∷◌, map, length, sym, refl, ap, subst, inl, inr, arith}
use Rattle.method_resolution.specs.Types.{Ambiguity, Candidate, ContainerKind, Err, ItemId, NoMatch, None, Ok, Option, Pick, Place, PrivateMatch, Shadowed, Some, Source}
use Rattle.std.specs.List.{AllByRecursion as All, find, list_all}
use Rattle.std.proofs.lemmas.Bool.{both_ways, and_parts, and_from, eqb-true, eq-eqb}
use Rattle.host.specs.Meaning.{◌∈◌, supers_of}
use Rattle.host.specs.declared.forms.ContainerKind.TheVariants.{Impl, Trait}
use Rattle.method_resolution.specs.Words.{First, NoneOf}
use Rattle.method_resolution.specs.Questions.{Question, Scope}
use Rattle.method_resolution.specs.Assembly.{private}
use Rattle.method_resolution.specs.Places.{places, applying}
use Rattle.method_resolution.specs.Judgement as judgement
use Rattle.method_resolution.specs.Judgement.{Decision, nothing, pick, ambiguity, Judged, OfTrait, OfOneTrait, AmongSupers, HasSubtrait, pick_of, trait_pick_of, shadowed_by, source_of}
use Rattle.method_resolution.specs.Verdicts as verdicts
use Rattle.method_resolution.specs.Verdicts.{Turn, turns, SomeApply, Decides, Undecided, GivesPrivatePick, JudgedPrivately, Finding, Finds, adjusted}
use Rattle.method_resolution.proofs.ListFacts.{all_at, all_of_says, all_of_from, first_from_find, none_from_find, first_in, first_holds, member, member_says, member_from}

abbrev pub is_trait : ContainerKind → Bool
is_trait Impl = false
is_trait Trait = true

is_trait_says : (k : ContainerKind) → is_trait k ≡ true → k ≡ Trait
is_trait_says Impl e = cc
is_trait_says Trait e = refl

abbrev pub is_of_trait : ℕ → Candidate → Bool
is_of_trait t c = is_trait c.item.kind && eqb c.item.container t

abbrev pub is_among : Question → ℕ → Candidate → Bool
is_among q t c = is_trait c.item.kind && member c.item.container (supers_of q.meaning t)

of_trait_says : (t : ℕ) (c : Candidate) → is_of_trait t c ≡ true → OfTrait t c
of_trait_says t c e =
    let h = and_parts (is_trait c.item.kind) (eqb c.item.container t) e in
    (is_trait_says _ h.0, eqb-true _ _ h.1)

of_trait_from : (t : ℕ) (c : Candidate) → OfTrait t c → is_of_trait t c ≡ true
of_trait_from t c h = and_from (is_trait c.item.kind) (eqb c.item.container t) (ap is_trait h.0) (eq-eqb _ _ h.1)

module _ (q : Question) where
  abbrev Among : ℕ → Candidate → Type 0
  Among t d = (d.item.kind ≡ Trait) × (d.item.container ∈ supers_of q.meaning t)

  among_says : (t : ℕ) (c : Candidate) → is_among q t c ≡ true → Among t c
  among_says t c e =
      let h = and_parts (is_trait c.item.kind) (member c.item.container (supers_of q.meaning t)) e in
      (is_trait_says _ h.0, member_says _ _ h.1)

  among_from : (t : ℕ) (c : Candidate) → Among t c → is_among q t c ≡ true
  among_from t c h = and_from (is_trait c.item.kind) (member c.item.container (supers_of q.meaning t)) (ap is_trait h.0) (member_from _ _ h.1)

  -- a candidate whose trait is above those of all
  abbrev Over : List Candidate → Candidate → Type 0
  Over all c = AmongSupers q c.item.container all

  abbrev pub is_over : List Candidate → Candidate → Bool
  is_over all c = list_all (is_among q c.item.container) all

  over_says : (all : List Candidate) (c : Candidate) → is_over all c ≡ true → Over all c
  over_says all c e = all_of_says _ (is_among q c.item.container) (among_says c.item.container) all e

  over_denies : (all : List Candidate) (c : Candidate) → is_over all c ≡ false → Over all c → ⊥
  over_denies all c e a = both_ways _ e (all_of_from _ (is_among q c.item.container) (among_from c.item.container) all a)

  module _ (p : Place) where
    abbrev pub judge_by_subtrait : List Candidate → Option Candidate → Decision
    judge_by_subtrait cs None = ambiguity (map (source_of q p) cs)
    judge_by_subtrait cs (Some c) = pick (trait_pick_of p c.item) (shadowed_by c.item cs)

    abbrev pub judge_several : Candidate → List Candidate → Bool → Bool → Decision
    judge_several c cs true s = pick (trait_pick_of p c.item) []
    judge_several c cs false true = judge_by_subtrait cs (find (is_over cs) cs)
    judge_several c cs false false = ambiguity (map (source_of q p) cs)

    abbrev pub judge : List Candidate → Decision
    judge [] = nothing
    judge (c ∷ []) = pick (pick_of p c) []
    judge (c ∷ (d ∷ cs)) = judge_several c (c ∷ (d ∷ cs)) (list_all (is_of_trait c.item.container) (c ∷ (d ∷ cs))) q.settings.supertrait_item_shadowing

    module _ (cs : List Candidate) (many : 1 < length cs) where
      subtrait_judged : (OfOneTrait cs → ⊥) → q.settings.supertrait_item_shadowing ≡ true → (o : Option Candidate) → find (is_over cs) cs ≡ o → Judged q p cs (judge_by_subtrait cs o)
      subtrait_judged n s None e = judgement.several many n (λ _ h. all_at (λ c. Over cs c → ⊥) cs h.0 (none_from_find (Over cs) (is_over cs) (over_says cs) (over_denies cs) cs e) h.1.0 h.1.1)
      subtrait_judged n s (Some c) e = let h = first_from_find (Over cs) (is_over cs) (over_says cs) (over_denies cs) cs c e in judgement.subtrait c many n s (first_in (Over cs) cs c h) (first_holds (Over cs) cs c h)

      several_judged : (c : Candidate) → c ∈ cs → ((t : ℕ) → All (OfTrait t) cs → c.item.container ≡ t) → (one shadow : Bool) → list_all (is_of_trait c.item.container) cs ≡ one → q.settings.supertrait_item_shadowing ≡ shadow → Judged q p cs (judge_several c cs one shadow)
      several_judged c m u true shadow e s = judgement.one_trait c many (c.item.container, all_of_says _ (is_of_trait c.item.container) (of_trait_says c.item.container) cs e) m
      several_judged c m u false true e s = subtrait_judged (λ h. both_ways _ e (all_of_from _ (is_of_trait c.item.container) (of_trait_from c.item.container) cs (subst (λ t. All (OfTrait t) cs) (sym (u h.0 h.1)) h.1))) s (find (is_over cs) cs) refl
      several_judged c m u false false e s = judgement.several many (λ h. both_ways _ e (all_of_from _ (is_of_trait c.item.container) (of_trait_from c.item.container) cs (subst (λ t. All (OfTrait t) cs) (sym (u h.0 h.1)) h.1))) (λ on h. both_ways _ s on)

    pub judge_judges : (cs : List Candidate) → Judged q p cs (judge cs)
    judge_judges [] = judgement.none refl
    judge_judges (c ∷ []) = judgement.sole c refl
    judge_judges (c ∷ (d ∷ cs)) = several_judged (c ∷ (d ∷ cs)) (omega arith) c (inl refl) (λ t a. a.0.1) _ _ refl refl

-- A pick excludes every other decision.
no_pick_and_nothing : (q : Question) (p : Place) (cs : List Candidate) (k : Pick) (is : List ItemId) → cs ≡ [] → Judged q p cs (pick k is) → ⊥
no_pick_and_nothing q p cs k is e (judgement.sole c f) = cc
no_pick_and_nothing q p cs k is e (judgement.one_trait c many o m) = let h : length cs ≡ 0 = ap length e in omega arith
no_pick_and_nothing q p cs k is e (judgement.subtrait c many o s m a) = let h : length cs ≡ 0 = ap length e in omega arith

module _ (q : Question) (p : Place) (cs : List Candidate) where
  no_pick_and_ambiguity : (k : Pick) (is : List ItemId) → 1 < length cs → (OfOneTrait cs → ⊥) → (q.settings.supertrait_item_shadowing ≡ true → HasSubtrait q cs → ⊥) → Judged q p cs (pick k is) → ⊥
  no_pick_and_ambiguity k is many one sub (judgement.sole c f) = let h : length cs ≡ 1 = ap length f in omega arith
  no_pick_and_ambiguity k is many one sub (judgement.one_trait c m o i) = one o
  no_pick_and_ambiguity k is many one sub (judgement.subtrait c m o s i a) = sub s (c, (i, a))

  pub only_nothing : Judged q p cs nothing → cs ≡ []
  only_nothing (judgement.none e) = e

  pub nothing_no_pick : Judged q p cs nothing → (k : Pick) (is : List ItemId) → Judged q p cs (pick k is) → ⊥
  nothing_no_pick (judgement.none e) k is j = no_pick_and_nothing q p cs k is e j

  pub ambiguity_no_pick : (ss : List _) → Judged q p cs (ambiguity ss) → (k : Pick) (is : List ItemId) → Judged q p cs (pick k is) → ⊥
  ambiguity_no_pick ss (judgement.several m o s) k is j = no_pick_and_ambiguity k is m o s j

abbrev pub nonempty : {X : Type 0} → List X → Bool
nonempty [] = false
nonempty (x ∷ xs) = true

nonempty_says : {X : Type 0} (xs : List X) → nonempty xs ≡ true → xs ≡ [] → ⊥
nonempty_says [] e f = cc
nonempty_says (x ∷ xs) e f = cc

empty_says : {X : Type 0} (xs : List X) → nonempty xs ≡ false → (xs ≡ [] → ⊥) → ⊥
empty_says [] e f = f refl
empty_says (x ∷ xs) e f = cc

-- the private pick of a place
pub record PrivatePick : Type 0 where
  pub place : Place
  pub chosen : Pick
  pub shadowed : List ItemId

module _ (q : Question) (ts : Scope) where
  abbrev pub some_apply : Turn → Bool
  some_apply t = nonempty (applying q ts t.list t.place)

  some_says : (t : Turn) → some_apply t ≡ true → SomeApply q ts t
  some_says t e = nonempty_says _ e

  some_denies : (t : Turn) → some_apply t ≡ false → SomeApply q ts t → ⊥
  some_denies t e = empty_says _ e

  abbrev pub private_or : Place → Decision → Option PrivatePick → Option PrivatePick
  private_or p nothing rest = rest
  private_or p (ambiguity ss) rest = rest
  private_or p (pick k is) rest = Some (record { place = p; chosen = k; shadowed = is })

  abbrev pub first_private : List Place → Option PrivatePick
  first_private [] = None
  first_private (p ∷ ps) = private_or p (judge q p (applying q ts private p)) (first_private ps)

  abbrev FoundPrivate : List Place → PrivatePick → Type 0
  FoundPrivate ps r = First (GivesPrivatePick q ts) ps r.place × JudgedPrivately q ts r.place r.chosen r.shadowed

  private_found : (ps : List Place) (r : PrivatePick) → first_private ps ≡ Some r → FoundPrivate ps r
  private_found [] r e = cc
  private_found (p ∷ ps) r e = step (λ k. private_found ps r k) (judge q p (applying q ts private p)) (judge_judges q p (applying q ts private p)) e
    where
      step : (first_private ps ≡ Some r → FoundPrivate ps r) → (d : Decision) → Judged q p (applying q ts private p) d → private_or p d (first_private ps) ≡ Some r
          → FoundPrivate (p ∷ ps) r
      step rest nothing j k = (inr (λ g. nothing_no_pick q p _ j g.0 g.1.0 g.1.1, (rest k).0), (rest k).1)
      step rest (ambiguity ss) j k = (inr (λ g. ambiguity_no_pick q p _ ss j g.0 g.1.0 g.1.1, (rest k).0), (rest k).1)
      step rest (pick c is) j k =
          let same : record { place = p; chosen = c; shadowed = is } ≡ r = cc in
          subst (FoundPrivate (p ∷ ps)) same (inl ((c, (is, j)), refl), j)

  private_none : (ps : List Place) → first_private ps ≡ None → NoneOf (GivesPrivatePick q ts) ps
  private_none [] e = tt
  private_none (p ∷ ps) e = step (λ k. private_none ps k) (judge q p (applying q ts private p)) (judge_judges q p (applying q ts private p)) e
    where
      step : (first_private ps ≡ None → NoneOf (GivesPrivatePick q ts) ps) → (d : Decision) → Judged q p (applying q ts private p) d → private_or p d (first_private ps) ≡ None → NoneOf (GivesPrivatePick q ts) (p ∷ ps)
      step rest nothing j k = (λ g. nothing_no_pick q p _ j g.0 g.1.0 g.1.1, rest k)
      step rest (ambiguity ss) j k = (λ g. ambiguity_no_pick q p _ ss j g.0 g.1.0 g.1.1, rest k)
      step rest (pick c is) j k = cc

  abbrev pub by_decision : Place → Decision → Finding
  by_decision p nothing = record { found = Err NoMatch; entries = [] }
  by_decision p (pick k is) = record { found = Ok (adjusted q p k); entries = map Shadowed is }
  by_decision p (ambiguity ss) = record { found = Err Ambiguity; entries = map Source ss }

  abbrev pub by_private : Option PrivatePick → Finding
  by_private None = record { found = Err NoMatch; entries = [] }
  by_private (Some r) = record { found = Err (PrivateMatch r.chosen); entries = map Shadowed r.shadowed }

  abbrev pub by_turn : Option Turn → Finding
  by_turn None = by_private (first_private (places q))
  by_turn (Some t) = by_decision t.place (judge q t.place (applying q ts t.list t.place))

  -- the verdict, computed
  abbrev pub finding : Finding
  finding = by_turn (find some_apply (turns q))

  decision_found : (t : Turn) → Decides q ts t → SomeApply q ts t → (d : Decision) → Judged q t.place (applying q ts t.list t.place) d → Finds q ts (by_decision t.place d)
  decision_found t h some nothing j = absurd (some (only_nothing q _ _ j))
  decision_found t h some (pick k is) j = verdicts.decided t k is h j
  decision_found t h some (ambiguity ss) j = verdicts.ambiguous t ss h j

  by_private_found : Undecided q ts → (o : Option PrivatePick) → first_private (places q) ≡ o → Finds q ts (by_private o)
  by_private_found u None e = verdicts.unmatched u (private_none (places q) e)
  by_private_found u (Some r) e = let h = private_found (places q) r e in verdicts.hidden r.place r.chosen r.shadowed u h.0 h.1

  by_turn_found : (o : Option Turn) → find some_apply (turns q) ≡ o → Finds q ts (by_turn o)
  by_turn_found None e = by_private_found (none_from_find (SomeApply q ts) some_apply some_says some_denies (turns q) e) (first_private (places q)) refl
  by_turn_found (Some t) e =
      let h = first_from_find (SomeApply q ts) some_apply some_says some_denies (turns q) t e in
      decision_found t h (first_holds (SomeApply q ts) (turns q) t h) _ (judge_judges q t.place (applying q ts t.list t.place))

  -- there is a verdict to every question
  pub finding_found : Finds q ts finding
  finding_found = by_turn_found (find some_apply (turns q)) refl
