-- Which row answers a question.
use Rattle.std.specs.Prelude.{◌≡◌, ℕ, Bool, cond, ◌&&◌, List, [], Some, Option, ◌==◌, ◌↔◌, slice_index}
use Rattle.std.specs.List.{find}
use Rattle.host.specs.Numbers.{question_number, container_number, class_number, wrap_number, mode_number}
use Rattle.host.specs.Questions.{askable}
use Rattle.host.specs.declared.forms.QuestionKind.{QuestionKind}
use Rattle.host.specs.declared.questions.Question.{Question}
use Rattle.host.specs.declared.questions.Question.TheVariants as asks
use Rattle.rows.specs.declared.rows.Row.{Row}
use Rattle.rows.specs.declared.rows.Key.{Key}

-- a question's number and seven arguments
abbrev pub key : ℕ → ℕ → ℕ → ℕ → ℕ → ℕ → ℕ → ℕ → Key
key q a b c d e f g = record { question = q; a1 = a; a2 = b; a3 = c; a4 = d; a5 = e; a6 = f; a7 = g }

-- the key of a question: what it does not use is 0
abbrev pub key_of : Question → Key
key_of (asks.Form t) = key 1 t 0 0 0 0 0 0
key_of (asks.Own t p) = key 2 t p 0 0 0 0 0
key_of (asks.Stray t p) = key 3 t p 0 0 0 0 0
key_of (asks.Item i) = key 4 (container_number i.kind) i.container i.place 0 0 0 0
key_of (asks.Bound t p) = key 5 t p 0 0 0 0 0
key_of (asks.Supers t p) = key 6 t p 0 0 0 0 0
key_of (asks.Visible i) = key 7 (container_number i.kind) i.container i.place 0 0 0 0
key_of (asks.Skips t) = key 8 t 0 0 0 0 0 0
key_of (asks.Applies a) = key 9 (class_number a.class) a.container a.place a.origin a.ty (wrap_number a.wrap) (mode_number a.mode)
key_of (asks.Source a) = key 10 a.tr a.place a.ty (wrap_number a.wrap) (mode_number a.mode) 0 0

-- a row from its eleven numbers: the question's, its seven arguments, and three answers
abbrev pub row_of : List ℕ → Row
row_of ns = record {
  key = key (slice_index ns 0) (slice_index ns 1) (slice_index ns 2) (slice_index ns 3) (slice_index ns 4) (slice_index ns 5) (slice_index ns 6) (slice_index ns 7);
  r1 = slice_index ns 8;
  r2 = slice_index ns 9;
  r3 = slice_index ns 10;
}

-- the kind of question that a row answers: the one that has its number, and none where none has it
abbrev pub Speaks : Row → Option QuestionKind → Type 0
Speaks r o = (x : QuestionKind) → (o ≡ Some x) ↔ (question_number x ≡ r.key.question)

-- whether a row has that question and all seven arguments
abbrev pub fits : Row → Key → Bool
fits r k = r.key.question == k.question && (r.key.a1 == k.a1 && (r.key.a2 == k.a2 && (r.key.a3 == k.a3 && (r.key.a4 == k.a4 && (r.key.a5 == k.a5 && (r.key.a6 == k.a6 && r.key.a7 == k.a7))))))

abbrev pub first_row : List Row → Key → Option Row
first_row rs k = find (λ r. fits r k) rs

-- the rows that speak to a question: all, if it can be asked
abbrev pub asked_rows : List Row → Question → List Row
asked_rows rs q = cond (askable q) rs []

-- the row that answers a question, if there is one
abbrev pub row_for : List Row → Question → Option Row
row_for rs q = first_row (asked_rows rs q) (key_of q)
