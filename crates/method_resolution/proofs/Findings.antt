-- One question over one scope finds one verdict: how a verdict came about.
use Rattle.std.proofs.Common.{◌≡◌, ◌⊎◌, List, [], map, filter, sym, refl, subst, inl, inr}
use Rattle.std.specs.List.{AllByRecursion as All}
use Rattle.host.specs.Law.{Lawful}
use Rattle.method_resolution.specs.Types.{Candidate, Err, ItemId, NoMatch, Pick, Place, PrivateMatch, Shadowed}
use Rattle.method_resolution.specs.Words.{First, NoneOf}
use Rattle.method_resolution.specs.Questions.{Question, Scope}
use Rattle.method_resolution.specs.Offers.{offers}
use Rattle.method_resolution.specs.Assembly.{private, candidates_on}
use Rattle.method_resolution.specs.Places.{places, applies, applying}
use Rattle.method_resolution.specs.Judgement.{Decision, pick, ambiguity, Judged}
use Rattle.method_resolution.specs.Verdicts as verdicts
use Rattle.method_resolution.specs.Verdicts.{Turn, Decides, Undecided, Finding, Finds}
use Rattle.method_resolution.proofs.ListFacts.{first_once, first_not_none}
use Rattle.method_resolution.proofs.Deciding.{by_decision}
use Rattle.method_resolution.proofs.AssembledLists.{Offered}
use Rattle.method_resolution.proofs.Judging.{judged_once}

module _ (q : Question) where
  -- A verdict that was made at a turn.
  pub record Ended (ts : Scope) (f : Finding) : Type 0 where
    pub turn : Turn
    pub decision : Decision
    pub decides : Decides q ts turn
    pub judged : Judged q turn.place (applying q ts turn.list turn.place) decision
    pub is : f ≡ by_decision q ts turn.place decision

  -- the private part of a verdict, over the private list
  abbrev pub GivesPick : List Candidate → Place → Type 0
  GivesPick cs p = (k : Pick) × ((is : List ItemId) × Judged q p (filter (applies q p) cs) (pick k is))

  pub data Privately (cs : List Candidate) : Finding → Type 0 where
    hidden : (p : Place) (k : Pick) (is : List ItemId) → First (GivesPick cs) (places q) p → Judged q p (filter (applies q p) cs) (pick k is) → Privately cs (record { found = Err (PrivateMatch k); entries = map Shadowed is })
    unmatched : NoneOf (GivesPick cs) (places q) → Privately cs (record { found = Err NoMatch; entries = [] })

  pub finds_cases : (ts : Scope) (f : Finding) → Finds q ts f → Ended ts f ⊎ (Undecided q ts × Privately (candidates_on q private (offers q ts)) f)
  finds_cases ts f (verdicts.decided t k is h j) = inl (record { turn = t; decision = pick k is; decides = h; judged = j; is = refl })
  finds_cases ts f (verdicts.ambiguous t ss h j) = inl (record { turn = t; decision = ambiguity ss; decides = h; judged = j; is = refl })
  finds_cases ts f (verdicts.hidden p k is u h j) = inr (u, hidden p k is h j)
  finds_cases ts f (verdicts.unmatched u n) = inr (u, unmatched n)

  module _ (lawful : Lawful q.meaning) where
    pub private_once : (cs : List Candidate) → ((p : Place) → All (Offered q) (filter (applies q p) cs)) → (f g : Finding) → Privately cs f → Privately cs g → f ≡ g
    private_once cs made f g (hidden p k is h j) (hidden r l js i m) =
        let e : p ≡ r = first_once (GivesPick cs) (places q) p r h i in
        let m' = subst (λ w. Judged q w (filter (applies q w) cs) (pick l js)) (sym e) m in
        let s : pick k is ≡ pick l js = judged_once q lawful p (filter (applies q p) cs) (made p) (pick k is) (pick l js) j m' in
        let a : k ≡ l = cc in
        let b : is ≡ js = cc in
        λ x. record { found = Err (PrivateMatch (a x)); entries = map Shadowed (b x) }
    private_once cs made f g (hidden p k is h j) (unmatched n) = absurd (first_not_none (GivesPick cs) (places q) p h n)
    private_once cs made f g (unmatched n) (hidden r l js i m) = absurd (first_not_none (GivesPick cs) (places q) r i n)
    private_once cs made f g (unmatched n) (unmatched o) = refl
