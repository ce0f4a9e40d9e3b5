use Rattle.std.proofs.Common.{arith}
use Rattle.host.specs.Numbers.{sort_number, sorts}
use Rattle.host.proofs.Members.{read_member, whole_sorts}
use Rattle.rows.proofs.answers.sort_named.Goals as goal

pub returns : goal.returns
returns c = let e = read_member sort_number sorts whole_sorts c.args.n c.try_from.result c.try_from.ensures in grind arith
