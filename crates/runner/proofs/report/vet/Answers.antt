use Rattle.std.proofs.Common.{◌≡◌, vec_items, subst, rules}
use Rattle.host.specs.Law.{SupertraitLaw}
use Rattle.rows.specs.Tables.{tabled}
use Rattle.runner.proofs.report.vet.Goals as goal

pub returns : goal.returns
returns c =
    let copied : vec_items c.in_ok-from_slice.field-0 ≡ c.args.rows.now = search rules in
    subst (λ rs. SupertraitLaw (tabled rs)) copied c.in-Ok.ensures.1
