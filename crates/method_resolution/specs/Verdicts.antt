-- The verdict, and the answer with all its refusals.
use Rattle.std.specs.Prelude.{◌≡◌, ℕ, ◌+◌, ◌<◌, ◌≤◌, Bool, false, List, [], ◌∷◌, ◌++◌, map, length, drop, flat_map}
use Rattle.std.specs.List.{AllByRecursion}
use Rattle.host.specs.declared.forms.Form.TheVariants as form
use Rattle.host.specs.declared.forms.Wrap.TheVariants as wrap
use Rattle.method_resolution.specs.Types.{Ambiguity, Autoref, AutorefOrPtrAdjustment, CandidateSource, CandidateStep, Err, Form, ItemId, ListEntry, ListTooShort, MethodError, Mut, NoMatch, None, Not, Ok, Option, Pick, Place, PrivateMatch, Refusal, Result, Shadowed, Some, Source, ToConstPtr, TooManyAutoderefs, TooManySteps, Verdict, Wrap}
use Rattle.method_resolution.specs.Words.{First, NoneOf}
use Rattle.method_resolution.specs.Questions.{Question, Scope, form_of}
use Rattle.method_resolution.specs.Offers.{offers}
use Rattle.method_resolution.specs.Assembly.{ListName, inherent, extension, private, Fits, Overfills}
use Rattle.method_resolution.specs.Places.{places, applying}
use Rattle.method_resolution.specs.Judgement.{Decision, pick, ambiguity, Judged}

-- At a reference by value one more dereference is made, and a reference of its mutability is taken again.
abbrev pub adjustment_by_value : Form → ℕ × Option AutorefOrPtrAdjustment
adjustment_by_value form.Other = (0, None)
adjustment_by_value form.Dynamic = (0, None)
adjustment_by_value form.Adt = (0, None)
adjustment_by_value form.Foreign = (0, None)
adjustment_by_value form.Param = (0, None)
adjustment_by_value form.Plain = (0, None)
adjustment_by_value form.Array = (0, None)
adjustment_by_value form.RawPtrMut = (0, None)
adjustment_by_value form.Ref = (1, Some (Autoref Not false))
adjustment_by_value form.RefMut = (1, Some (Autoref Mut false))
adjustment_by_value form.RawPtrConst = (0, None)

-- how many more autoderefs than the step has, and the adjustment
abbrev pub adjustment : Form → Bool → Wrap → ℕ × Option AutorefOrPtrAdjustment
adjustment f unsize wrap.Bare = adjustment_by_value f
adjustment f unsize wrap.Ref = (0, Some (Autoref Not unsize))
adjustment f unsize wrap.RefMut = (0, Some (Autoref Mut unsize))
adjustment f unsize wrap.ConstPtr = (0, Some ToConstPtr)

abbrev pub with_adjustment : Pick → ℕ → ℕ × Option AutorefOrPtrAdjustment → Pick
with_adjustment k autoderefs a = record { item = k.item; kind = k.kind; autoderefs = autoderefs + a.0; autoref_or_ptr_adjustment = a.1; self_ty = k.self_ty; receiver_steps = k.receiver_steps }

abbrev pub adjusted : Question → Place → Pick → Pick
adjusted q p k = with_adjustment k p.step.autoderefs (adjustment (form_of q p.step) p.step.unsize p.wrap)

-- A list that is judged at a place.
pub record Turn : Type 0 where
  pub place : Place
  pub list : ListName

abbrev pub turns_at : Place → List Turn
turns_at p = record { place = p; list = inherent } ∷ record { place = p; list = extension } ∷ []

-- the order of the search: at each place the inherent list, then the extension list
unfoldable pub turns : Question → List Turn
turns q = flat_map turns_at (places q)

abbrev pub SomeApply : Question → Scope → Turn → Type 0
SomeApply q traits t = applying q traits t.list t.place ≡ [] → ⊥

-- the turn that ends the search: the first at which something applies
abbrev pub Decides : Question → Scope → Turn → Type 0
Decides q traits t = First (SomeApply q traits) (turns q) t

-- Nothing on these two lists applies at any place.
abbrev pub Undecided : Question → Scope → Type 0
Undecided q traits = NoneOf (SomeApply q traits) (turns q)

abbrev pub JudgedPrivately : Question → Scope → Place → Pick → List ItemId → Type 0
JudgedPrivately q traits p k items = Judged q p (applying q traits private p) (pick k items)

abbrev pub GivesPrivatePick : Question → Scope → Place → Type 0
GivesPrivatePick q traits p = (k : Pick) × ((items : List ItemId) × JudgedPrivately q traits p k items)

-- a verdict with its entries
pub record Finding : Type 0 where
  pub found : Result Pick MethodError
  pub entries : List ListEntry

abbrev pub JudgedAt : Question → Scope → Turn → Decision → Type 0
JudgedAt q traits t d = Judged q t.place (applying q traits t.list t.place) d

-- The first inherent or extension decision ends the search. Failing that, the first private pick makes a private match,
-- unadjusted; a private ambiguity is passed over. Else nothing matches.
pub data Finds (q : Question) (traits : Scope) : Finding → Type 0 where
  decided : (t : Turn) (k : Pick) (items : List ItemId) → Decides q traits t → JudgedAt q traits t (pick k items)
      → Finds q traits (record { found = Ok (adjusted q t.place k); entries = map Shadowed items })
  ambiguous : (t : Turn) (sources : List CandidateSource) → Decides q traits t → JudgedAt q traits t (ambiguity sources)
      → Finds q traits (record { found = Err Ambiguity; entries = map Source sources })
  hidden : (p : Place) (k : Pick) (items : List ItemId) → Undecided q traits → First (GivesPrivatePick q traits) (places q) p → JudgedPrivately q traits p k items
      → Finds q traits (record { found = Err (PrivateMatch k); entries = map Shadowed items })
  unmatched : Undecided q traits → NoneOf (GivesPrivatePick q traits) (places q)
      → Finds q traits (record { found = Err NoMatch; entries = [] })

-- The entries go to the list's front, and later ones stay.
abbrev pub put_in_front : List ListEntry → List ListEntry → List ListEntry
put_in_front entries list = entries ++ drop (length entries) list

abbrev pub told : Finding → Verdict
told f = record { found = f.found; count = length f.entries }

abbrev pub FewAutoderefs : CandidateStep → Type 0
FewAutoderefs step = step.autoderefs ≤ 255

-- The checks that come before assembly.
pub record Accepted (q : Question) (list : List ListEntry) : Type 0 where
  pub long : 64 ≤ length list
  pub steps : length q.steps ≤ 32
  pub autoderefs : AllByRecursion FewAutoderefs q.steps

-- All that an answer can be, from the list before: the list after, and the result. The first check that fails refuses, and a
-- refusal leaves the list.
pub data Answer (q : Question) (traits : Scope) (list : List ListEntry) : List ListEntry → Result Verdict Refusal → Type 0 where
  short_list : length list < 64 → Answer q traits list list (Err ListTooShort)
  many_steps : 64 ≤ length list → 32 < length q.steps → Answer q traits list list (Err TooManySteps)
  many_autoderefs : 64 ≤ length list → length q.steps ≤ 32 → (AllByRecursion FewAutoderefs q.steps → ⊥) → Answer q traits list list (Err TooManyAutoderefs)
  overfull : (refusal : Refusal) → Accepted q list → Overfills q (offers q traits) refusal → Answer q traits list list (Err refusal)
  verdict : (f : Finding) → Accepted q list → Fits q (offers q traits) → Finds q traits f → Answer q traits list (put_in_front f.entries list) (Ok (told f))
