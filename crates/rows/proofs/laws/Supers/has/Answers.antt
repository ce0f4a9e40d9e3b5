use Rattle.std.proofs.Common.{eqb}
use Rattle.roll.proofs.Sameness.{on_from_has}
use Rattle.rows.proofs.laws.Supers.has.Goals as goal

pub returns : goal.returns
returns c = on_from_has eqb c.args.self.now.list.now c.args.tr c.holds.result c.holds.ensures
