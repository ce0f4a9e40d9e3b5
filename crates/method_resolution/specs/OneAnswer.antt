-- Every question has one answer.
use Rattle.std.specs.Prelude.{◌≡◌, List, length}
use Rattle.host.specs.Law.{Lawful}
use Rattle.method_resolution.specs.Types.{ListEntry, Refusal, Result, Verdict}
use Rattle.method_resolution.specs.Questions.{Question, Scope}
use Rattle.method_resolution.specs.Verdicts.{Answer}

pub record Answered (q : Question) (traits : Scope) (list : List ListEntry) : Type 0 where
  pub after : List ListEntry
  pub result : Result Verdict Refusal
  pub answer : Answer q traits list after result
  pub long : length after ≡ length list
  pub only : (after' : List ListEntry) (result' : Result Verdict Refusal) → Answer q traits list after' result' → (after' ≡ after) × (result' ≡ result)

-- There is an answer, it leaves the list's length, and there is no other.
abbrev pub OneAnswer : Type 0
OneAnswer = (q : Question) → Lawful q.meaning → (traits : Scope) (list : List ListEntry) → Answered q traits list
