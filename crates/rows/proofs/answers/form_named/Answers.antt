use Rattle.std.proofs.Common.{arith}
use Rattle.host.specs.Numbers.{form_number, forms}
use Rattle.host.proofs.Members.{read_member, whole_forms}
use Rattle.rows.proofs.answers.form_named.Goals as goal

pub returns : goal.returns
returns c = let e = read_member form_number forms whole_forms c.args.n c.try_from.result c.try_from.ensures in grind arith
