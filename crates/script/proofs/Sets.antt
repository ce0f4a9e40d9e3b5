-- The closed sets: what `listed` answers is what the grammar says of each.
use Rattle.std.proofs.Common.{◌≡◌, ℕ, List, Ok, Err, Result, ap, ◌∙◌}
use Rattle.std.specs.Option.{ok_or}
use Rattle.host.specs.declared.forms.ContainerKind.{ContainerKind}
use Rattle.host.specs.declared.forms.CandidateClass.{CandidateClass}
use Rattle.host.specs.declared.forms.Wrap.{Wrap}
use Rattle.host.specs.declared.forms.Mode.{Mode}
use Rattle.host.specs.declared.forms.QuestionKind.{QuestionKind}
use Rattle.host.specs.Numbers.{Reads, member, container_number, container_kinds, class_number, candidate_classes, wrap_number, wraps, mode_number, modes, question_number, question_kinds}
use Rattle.host.proofs.Members.{Whole, read_member, whole_container_kinds, whole_candidate_classes, whole_wraps, whole_modes, whole_question_kinds}
use Rattle.script.specs.declared.faults.Fault.{Fault}
use Rattle.script.specs.declared.faults.Fault.TheVariants.{UnknownQuestion}
use Rattle.script.specs.Grammar.{kind_at, class_at, wrap_at, mode_at, question_at, ReadAs, Listed}

-- what a number is read as is its member in a table of all members, or else the fault
read_is : {X : Type 0} (code : X → ℕ) (table : List X) → Whole code table → (fault : Fault) (n : ℕ) (r : Result X Fault) → ReadAs (Reads code) fault n r → r ≡ ok_or (member code table n) fault
read_is code table whole fault n (Ok x) h = ap (λ o. ok_or o fault) (read_member code table whole n (Ok x) h)
read_is code table whole fault n (Err f) h = ap Err h.0 ∙ ap (λ o. ok_or o fault) (read_member code table whole n (Err h.1.0) h.1.1)

pub kind_is : (place n : ℕ) (r : Result ContainerKind Fault) → Listed (Reads container_number) place n r → r ≡ kind_at place (λ _. n)
kind_is place n r h = read_is container_number container_kinds whole_container_kinds _ n r h

pub class_is : (place n : ℕ) (r : Result CandidateClass Fault) → Listed (Reads class_number) place n r → r ≡ class_at place (λ _. n)
class_is place n r h = read_is class_number candidate_classes whole_candidate_classes _ n r h

pub wrap_is : (place n : ℕ) (r : Result Wrap Fault) → Listed (Reads wrap_number) place n r → r ≡ wrap_at place (λ _. n)
wrap_is place n r h = read_is wrap_number wraps whole_wraps _ n r h

pub mode_is : (place n : ℕ) (r : Result Mode Fault) → Listed (Reads mode_number) place n r → r ≡ mode_at place (λ _. n)
mode_is place n r h = read_is mode_number modes whole_modes _ n r h

pub question_is : (n : ℕ) (r : Result QuestionKind Fault) → ReadAs (Reads question_number) UnknownQuestion n r → r ≡ question_at n
question_is n r h = read_is question_number question_kinds whole_question_kinds _ n r h
