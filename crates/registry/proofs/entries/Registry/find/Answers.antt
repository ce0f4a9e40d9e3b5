use Rattle.std.proofs.Common.{rules}
use Rattle.std.specs.FinMap.{gets}
use Rattle.registry.proofs.Known.{known_at}
use Rattle.registry.proofs.entries.Registry.find.Goals as goal
use Rattle.registry.proofs.entries.Registry.find.Goals.{in_default-via-in-Some+else-begun-id, in_default-via-in_default}

pub returns-in-Some : goal.returns-in-Some
returns-in-Some c = rw (← c.self.view_is) (grind (gets, rules))

pub returns-in_default : goal.returns-in_default
returns-in_default c = rw (← c.self.view_is) (elim c.in_default.branch [
  | in_default-via-in-Some+else-begun-id w ↦ grind (gets, rules, known_at c.self.inside.hosts.entries c.args.id)
  | in_default-via-in_default w ↦ grind (gets, rules, known_at c.self.inside.hosts.entries c.args.id)
])
