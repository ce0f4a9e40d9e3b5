use Rattle.std.proofs.Common.{◌≡◌, Some, rules}
use Rattle.registry.proofs.Known.{known_begun}
use Rattle.registry.proofs.entries.Registry.add_row.Goals as goal

pub returns-in-Tabled-clause-told : goal.returns-in-Tabled-clause-told
returns-in-Tabled-clause-told c =
    let begun = c.in_ok-begun.begun.now in
    let was : c.self.inside.begun ≡ Some begun = search rules in
    rw (← c.self.view_is, was, known_begun c.self.inside.hosts.entries begun, c.in-Tabled.is) c.push.ensures.told

pub returns-in-Empty-clause-told : goal.returns-in-Empty-clause-told
returns-in-Empty-clause-told c =
    let begun = c.in_ok-begun.begun.now in
    let was : c.self.inside.begun ≡ Some begun = search rules in
    rw (← c.self.view_is, was, known_begun c.self.inside.hosts.entries begun, c.in-Empty.is) (search rules)
