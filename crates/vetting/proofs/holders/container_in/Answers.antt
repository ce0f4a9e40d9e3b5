use Rattle.std.proofs.Common.{rules}
use Rattle.vetting.proofs.Equals.{of_an_item, of_no_item}
use Rattle.vetting.proofs.holders.container_in.Goals as goal

pub returns-then-ne : goal.returns-then-ne
returns-then-ne c = of_no_item c.args.row.now c.question.result c.question.ensures (λ e. search rules)

pub returns : goal.returns
returns c = let e = of_an_item c.args.row.now c.question.result c.try_from-kind.result c.question.ensures (search rules) c.try_from-kind.ensures in search rules
