-- What a row speaks of.
use Rattle.std.specs.Prelude.{ℕ, Bool, cond, ◌&&◌, List, [], ◌∷◌, ◌++◌, ◌==◌, map, nat_eq}
use Rattle.roll.specs.Equality.{on}
use Rattle.host.specs.Numbers.{container_number, question_number}
use Rattle.host.specs.declared.forms.ContainerKind.TheVariants as container
use Rattle.host.specs.declared.forms.QuestionKind.{QuestionKind}
use Rattle.host.specs.declared.forms.QuestionKind.TheVariants as asks
use Rattle.rows.specs.declared.rows.Row.{Row}
use Rattle.vetting.specs.declared.speaking.Subject.{Subject}
use Rattle.vetting.specs.declared.speaking.Subject.TheVariants as about

-- a number where a test holds
abbrev pub only : Bool → ℕ → List ℕ
only b n = cond b (n ∷ []) []

-- whether a row is of one of these questions, be it one that can answer or not
abbrev pub of_question : Row → List QuestionKind → Bool
of_question r ks = on nat_eq (map question_number ks) r.key.question

-- What a row speaks of, by the fields that say what a table has: the types of questions 1, 2, 3 and 5; the traits of
-- questions 6 and 8, those answered to 5 and 6, and those whose items questions 4 and 7 are about; the names that question
-- 4 answers. Numbers that only a question 9 or 10 has are not counted.
abbrev pub mentioned : Subject → Row → List ℕ
mentioned about.«Type» r = only (of_question r (asks.Form ∷ asks.Own ∷ asks.Stray ∷ asks.Bound ∷ [])) r.key.a1
mentioned about.Trait r =
    only (of_question r (asks.Supers ∷ asks.Skips ∷ [])) r.key.a1 ++ only (of_question r (asks.Bound ∷ asks.Supers ∷ [])) r.r1
    ++ only (of_question r (asks.Item ∷ asks.Visible ∷ []) && r.key.a1 == container_number container.Trait) r.key.a2
mentioned about.Name r = only (of_question r (asks.Item ∷ [])) r.r1

-- the row, with a question of that kind
abbrev pub asking : Row → QuestionKind → Row
asking r k = record r { key = record r.key { question = question_number k } }
