use Rattle.host.proofs.Meanings.{same_meaning}
use Rattle.host.proofs.laws.alike_hosts_have_one_meaning.Goals as goal

pub returns : goal.returns
returns g c = same_meaning _ _ (g.A.Host.lawful c.args.a.now) (g.B.Host.lawful c.args.b.now)
