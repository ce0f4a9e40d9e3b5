-- By hand: with both lemmas named on the function, the search gives up.
use Rattle.std.proofs.Common.{◌∙◌, sym, rules}
use Rattle.host.specs.declared.forms.QuestionKind.TheVariants.{Supers}
use Rattle.rows.proofs.Questions.{kind_is, kind_differs}
use Rattle.rows.proofs.laws.begins_supers.Goals as goal

pub returns-then-eq : goal.returns-then-eq
returns-then-eq c =
    let six = kind_is c.args.row.now c.question.result Supers c.question.ensures (sym c.eq.ensures ∙ c.if-eq.true) in
    search rules

pub returns-else-eq : goal.returns-else-eq
returns-else-eq c =
    let other = kind_differs c.args.row.now c.question.result Supers c.question.ensures (sym c.eq.ensures ∙ c.if-eq.false) in
    search rules
