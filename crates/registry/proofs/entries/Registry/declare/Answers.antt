use Rattle.std.proofs.Common.{◌≡◌, Some, rules}
use Rattle.registry.proofs.Known.{known_put}
use Rattle.registry.proofs.entries.Registry.declare.Goals as goal

pub returns-in-Ok-clause-after : goal.returns-in-Ok-clause-after
returns-in-Ok-clause-after c =
    let was : c.self.inside.begun ≡ Some c.in-Some.before = search rules in
    rw (← c.self.view_is, was, c.replace.ensures.after, known_put c.self.inside.hosts c.insert.new.self c.in-Some.before.id c.in-Some.before.host (search rules)) (search rules)
