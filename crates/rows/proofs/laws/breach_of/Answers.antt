use Rattle.std.proofs.Common.{ap, ◌∙◌}
use Rattle.rows.specs.Breaches.{breach_of}
use Rattle.rows.specs.Tables.{tabled}
use Rattle.rows.proofs.Lawfulness.{told}
use Rattle.rows.proofs.laws.breach_of.Goals as goal

pub returns-clause-law : goal.returns-clause-law
returns-clause-law c = told c.args.rows.now c.args.tr c.breach.result (c.breach.ensures ∙ ap (λ rs. breach_of (tabled rs) c.gather.result.tr) c.gather.ensures.rows ∙ ap (breach_of (tabled c.args.rows.now)) c.gather.ensures.tr)
