-- What a line of a script says: a command, or the first fault. A line is given by its words, whose places count from 1.
--
-- Of several faults the first in this order is told: the command is unknown; the words are too few or too many; a word, the
-- first from the left, is no number; a kind, class, wrap or mode, the first from the left, is outside its list. In `ask`
-- the ID and the question's number are read first, since they say how many words are wanted. In `host` the ID is read
-- before the kind.
use Rattle.std.specs.Prelude.{◌≡◌, ℕ, ◌+◌, ◌-◌, ◌*◌, ◌^◌, Bool, true, if◌then◌else◌, ◌&&◌, List, [], ◌∷◌, map, length, Some, None, Ok, Err, codes, Option, Result, nat_le, nat_lt, slice_index}
use Rattle.std.specs.Borrow.{Bor}
use Rattle.std.specs.Option.{ok_or}
use Rattle.std.specs.Str.{bytes_eq}
use Rattle.host.specs.declared.forms.ContainerKind.{ContainerKind}
use Rattle.host.specs.declared.forms.CandidateClass.{CandidateClass}
use Rattle.host.specs.declared.forms.Wrap.{Wrap}
use Rattle.host.specs.declared.forms.Mode.{Mode}
use Rattle.host.specs.declared.forms.QuestionKind.{QuestionKind}
use Rattle.host.specs.declared.forms.QuestionKind.TheVariants as kind
use Rattle.host.specs.declared.forms.ItemId.{ItemId}
use Rattle.host.specs.declared.forms.Trial.{Trial}
use Rattle.host.specs.declared.forms.TraitItem.{TraitItem}
use Rattle.host.specs.declared.numbers.UnknownNumber.{UnknownNumber}
use Rattle.host.specs.declared.questions.Question.{Question}
use Rattle.host.specs.declared.questions.Question.TheVariants as question
use Rattle.host.specs.Numbers.{member, container_number, container_kinds, class_number, candidate_classes, wrap_number, wraps, mode_number, modes, question_number, question_kinds}
use Rattle.rows.specs.Rows.{key}
use Rattle.script.specs.declared.commands.Command.{Command}
use Rattle.script.specs.declared.commands.Command.TheVariants as command
use Rattle.script.specs.declared.commands.HostKind.{HostKind}
use Rattle.script.specs.declared.commands.HostKind.TheVariants.{Tabled, Empty}
use Rattle.script.specs.declared.faults.Fault.{Fault}
use Rattle.script.specs.declared.faults.Fault.TheVariants.{UnknownCommand, TooFewWords, TooManyWords, NotANumber, UnknownHostKind, UnknownQuestion, OutsideList}

-- a text, by its bytes
abbrev pub Text : Type 0
Text = List ℕ

-- the words' texts
abbrev pub texts : List (Bor Text) → List Text
texts ws = map (λ w. w.now) ws

-- Numbers.

-- only digits, of which '0' is 48 and '9' is 57
abbrev pub digits : Text → Bool
digits [] = true
digits (c ∷ cs) = (nat_le 48 c && nat_le c 57) && digits cs

-- the number that digits write, behind those of n
abbrev pub value_after : ℕ → Text → ℕ
value_after n [] = n
value_after n (c ∷ cs) = value_after (n * 10 + (c - 48)) cs

abbrev pub value : Text → ℕ
value w = value_after 0 w

-- the number that a text writes: decimal digits alone, at least one, and below 2 ^ 32
unfoldable pub decimal : Text → Option ℕ
decimal w = if digits w && (nat_lt 0 (length w) && nat_lt (value w) (2 ^ 32)) then Some (value w) else None

-- Faults.

-- what comes next, unless there is a fault already
infixr 20 ◌then◌
abbrev pub ◌then◌ : {X Y : Type 0} → Result X Fault → (X → Result Y Fault) → Result Y Fault
Ok x then next = next x
Err fault then next = Err fault

-- the words are exactly so many
unfoldable pub exactly : {X : Type 0} → ℕ → List Text → Result X Fault → Result X Fault
exactly count ws r = if nat_lt (length ws) count then Err TooFewWords else if nat_lt count (length ws) then Err TooManyWords else r

-- the number of the word at that place
abbrev pub number_at : ℕ → Text → Result ℕ Fault
number_at place w = ok_or (decimal w) (NotANumber place)

-- the numbers of words, the first of which stands at that place
unfoldable pub numbers_from : ℕ → List Text → Result (List ℕ) Fault
numbers_from place [] = Ok []
numbers_from place (w ∷ ws) = number_at place w then λ n. numbers_from (place + 1) ws then λ ns. Ok (n ∷ ns)

-- the words from the place `first` on are exactly so many numbers; `n 5` is then the number at place 5
abbrev pub numbers : {X : Type 0} → (first count : ℕ) → List Text → ((ℕ → ℕ) → Result X Fault) → Result X Fault
numbers first count ws next = exactly count ws (numbers_from first ws) then λ ns. next (λ place. slice_index ns (place - first))

-- Closed sets.

-- the member that the number at that place stands for
abbrev pub kind_at : ℕ → (ℕ → ℕ) → Result ContainerKind Fault
kind_at place n = ok_or (member container_number container_kinds (n place)) (OutsideList place)

abbrev pub class_at : ℕ → (ℕ → ℕ) → Result CandidateClass Fault
class_at place n = ok_or (member class_number candidate_classes (n place)) (OutsideList place)

abbrev pub wrap_at : ℕ → (ℕ → ℕ) → Result Wrap Fault
wrap_at place n = ok_or (member wrap_number wraps (n place)) (OutsideList place)

abbrev pub mode_at : ℕ → (ℕ → ℕ) → Result Mode Fault
mode_at place n = ok_or (member mode_number modes (n place)) (OutsideList place)

-- the kind of question that has that number
abbrev pub question_at : ℕ → Result QuestionKind Fault
question_at q = ok_or (member question_number question_kinds q) UnknownQuestion

-- the same of any closed set: r is the member that the number is read as, or the fault where it is none's
abbrev pub ReadAs : {X : Type 0} → (ℕ → Result X UnknownNumber → Type 0) → Fault → ℕ → Result X Fault → Type 0
ReadAs gives fault n (Ok x) = gives n (Ok x)
ReadAs gives fault n (Err f) = (f ≡ fault) × ((e : UnknownNumber) × gives n (Err e))

abbrev pub Listed : {X : Type 0} → (ℕ → Result X UnknownNumber → Type 0) → ℕ → ℕ → Result X Fault → Type 0
Listed gives place n r = ReadAs gives (OutsideList place) n r

-- Tables.

-- what stands beside the key k, or else what is given for every other key
abbrev pub beside : {K X : Type 0} → (K → K → Bool) → K → List (K × X) → X → X
beside same k [] other = other
beside same k ((key, x) ∷ more) other = if same k key then x else beside same k more other

-- Questions: ws are the words behind the question's number, from place 4 on.

-- the item that questions 4 and 7 ask about
unfoldable pub item_of : List Text → Result ItemId Fault
item_of ws = numbers 4 3 ws (λ n. kind_at 4 n then λ k. Ok (record { kind = k; container = n 5; place = n 6 }))

-- the candidate that question 9 tries
unfoldable pub applies_line : List Text → Result Trial Fault
applies_line ws = numbers 4 7 ws (λ n.
    class_at 4 n then λ c. wrap_at 9 n then λ w. mode_at 10 n then λ m.
    Ok (record { class = c; container = n 5; place = n 6; origin = n 7; ty = n 8; wrap = w; mode = m }))

-- the trait's item that question 10 asks about
unfoldable pub source_line : List Text → Result TraitItem Fault
source_line ws = numbers 4 5 ws (λ n.
    wrap_at 7 n then λ w. mode_at 8 n then λ m.
    Ok (record { tr = n 4; place = n 5; ty = n 6; wrap = w; mode = m }))

unfoldable pub question_of : QuestionKind → List Text → Result Question Fault
question_of kind.Form ws = numbers 4 1 ws (λ n. Ok (question.Form (n 4)))
question_of kind.Own ws = numbers 4 2 ws (λ n. Ok (question.Own (n 4) (n 5)))
question_of kind.Stray ws = numbers 4 2 ws (λ n. Ok (question.Stray (n 4) (n 5)))
question_of kind.Item ws = item_of ws then λ i. Ok (question.Item i)
question_of kind.Bound ws = numbers 4 2 ws (λ n. Ok (question.Bound (n 4) (n 5)))
question_of kind.Supers ws = numbers 4 2 ws (λ n. Ok (question.Supers (n 4) (n 5)))
question_of kind.Visible ws = item_of ws then λ i. Ok (question.Visible i)
question_of kind.Skips ws = numbers 4 1 ws (λ n. Ok (question.Skips (n 4)))
question_of kind.Applies ws = applies_line ws then λ a. Ok (question.Applies a)
question_of kind.Source ws = source_line ws then λ i. Ok (question.Source i)

unfoldable pub question_line : ℕ → List Text → Result Question Fault
question_line q ws = question_at q then λ k. question_of k ws

-- Commands: ws are the words behind the command, from place 2 on.

unfoldable pub host_kind : Text → Result HostKind Fault
host_kind w = beside bytes_eq w ((codes "tabled", Ok Tabled) ∷ (codes "empty", Ok Empty) ∷ []) (Err UnknownHostKind)

-- host ID tabled | host ID empty
unfoldable pub host_line : List Text → Result Command Fault
host_line [] = Err TooFewWords
host_line (id ∷ []) = Err TooFewWords
host_line (id ∷ kind ∷ []) = number_at 2 id then λ i. host_kind kind then λ k. Ok (command.Host i k)
host_line (id ∷ kind ∷ more ∷ ws) = Err TooManyWords

-- row Q A1 A2 A3 A4 A5 A6 A7 R1 R2 R3
unfoldable pub row_line : List Text → Result Command Fault
row_line ws = numbers 2 11 ws (λ n. Ok (command.Row (record {
  key = key (n 2) (n 3) (n 4) (n 5) (n 6) (n 7) (n 8) (n 9);
  r1 = n 10;
  r2 = n 11;
  r3 = n 12;
})))

-- open ID
unfoldable pub open_line : List Text → Result Command Fault
open_line ws = numbers 2 1 ws (λ n. Ok (command.Open (n 2)))

-- ask ID QUESTION ARGUMENT...
unfoldable pub ask_line : List Text → Result Command Fault
ask_line [] = Err TooFewWords
ask_line (id ∷ []) = Err TooFewWords
ask_line (id ∷ q ∷ ws) = number_at 2 id then λ i. number_at 3 q then λ k. question_line k ws then λ a. Ok (command.Ask i a)

-- the line
unfoldable pub parsed : List Text → Result Command Fault
parsed [] = Ok command.Nothing
parsed (w ∷ ws) = beside bytes_eq w
    ((codes "host", host_line ws)
    ∷ (codes "row", row_line ws)
    ∷ (codes "open", open_line ws)
    ∷ (codes "ask", ask_line ws)
    ∷ []) (Err UnknownCommand)
