use Rattle.std.proofs.Common.{vec_items, refl, subst}
use Rattle.host.specs.Law.{SupertraitLaw}
use Rattle.rows.specs.Tables.{tabled}
use Rattle.rows.proofs.Lawfulness.{unbroken, lawful_everywhere}
use Rattle.tabled.proofs.table.TabledHost.open.Goals as goal

pub invariant_of-result : goal.invariant_of-result
invariant_of-result c =
    let rows = vec_items c.args.rows in
    let law = subst (λ rs. SupertraitLaw (tabled rs)) c.deref.ensures.value c.if-is_lawful.ensures in
    record { unbroken = λ t. unbroken rows t (lawful_everywhere rows law t) }

pub returns-then-is_lawful : goal.returns-then-is_lawful
returns-then-is_lawful c = (refl, subst (λ rs. SupertraitLaw (tabled rs)) c.deref.ensures.value c.if-is_lawful.ensures)
