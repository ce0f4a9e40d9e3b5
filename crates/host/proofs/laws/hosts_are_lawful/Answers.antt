use Rattle.host.proofs.laws.hosts_are_lawful.Goals as goal

pub returns : goal.returns
returns g c = g.H.Host.lawful c.args.host.now
