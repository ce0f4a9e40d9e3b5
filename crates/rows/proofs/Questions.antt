-- A kind of question, compared with one that a row may have none of.
use Rattle.std.proofs.Common.{◌≡◌, ◌≢◌, true, false, Some, None, Option, sym, refl, ap, ◌∙◌, rules}
use Rattle.std.specs.Option.{option_eq}
use Rattle.std.proofs.lemmas.Bool.{both_ways}
use Rattle.host.specs.Numbers.{question_number}
use Rattle.host.specs.declared.forms.QuestionKind.{QuestionKind}
use Rattle.host.specs.contracts.forms.QuestionKindPartialEq.TheImpl.{eq-value}
use Rattle.rows.specs.Rows.{Speaks}
use Rattle.rows.specs.declared.rows.Row.{Row}

same_kind : (x y : QuestionKind) → eq-value.it x y ≡ true → x ≡ y
same_kind x y e = search rules

equal_kind : (x : QuestionKind) → eq-value.it x x ≡ true
equal_kind x = search rules

-- a row whose kind equals x has its number
pub kind_is : (r : Row) (o : Option QuestionKind) (x : QuestionKind) → Speaks r o → option_eq eq-value.it o (Some x) ≡ true → r.key.question ≡ question_number x
kind_is r None x s e = absurd (both_ways true (sym e) refl)
kind_is r (Some y) x s e = sym ((s x).0 (ap Some (same_kind y x e)))

-- and one whose kind does not equal x has another
pub kind_differs : (r : Row) (o : Option QuestionKind) (x : QuestionKind) → Speaks r o → option_eq eq-value.it o (Some x) ≡ false → r.key.question ≢ question_number x
kind_differs r o x s e is = both_ways (option_eq eq-value.it o (Some x)) e (ap (λ p. option_eq eq-value.it p (Some x)) ((s x).1 (sym is)) ∙ equal_kind x)
