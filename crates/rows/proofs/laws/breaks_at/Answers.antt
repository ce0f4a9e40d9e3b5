use Rattle.std.proofs.Common.{rules}
use Rattle.rows.proofs.Breaking.{broken_or_lawful}
use Rattle.rows.proofs.laws.breaks_at.Goals as goal

pub returns : goal.returns
returns c =
    let told = broken_or_lawful _ _ _ c.breach_of.ensures.law in
    search rules
