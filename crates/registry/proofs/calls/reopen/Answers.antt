use Rattle.std.proofs.Common.{rules, refl}
use Rattle.registry.proofs.calls.reopen.Goals as goal

pub returns-in-Ok : goal.returns-in-Ok
returns-in-Ok c = (c.in-Ok.host, search rules, refl)
