use Rattle.std.proofs.Common.{rules}
use borrow.Author.Tests.{tests}
use Rattle.std.proofs.lemmas.Iterator.{cases_from_any, YieldsList-from_slice}
use Rattle.rows.specs.Breaches.{Broken, Unbroken}
use Rattle.rows.specs.Tables.{tabled}
use Rattle.rows.proofs.Lawfulness.{lawful_or_broken}
use Rattle.rows.proofs.laws.is_lawful.Goals as goal

pub returns : goal.returns
returns c =
    let m = tabled c.args.rows.now in
    lawful_or_broken c.args.rows.now c.any.result (cases_from_any _ _ _ (Broken m) (Unbroken m) c.any.ensures.ran (YieldsList-from_slice c.args.rows.now cc) (λ x q k. search (rules, tests)) (λ x q k. search (rules, tests)))
