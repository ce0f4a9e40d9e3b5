use Rattle.std.proofs.Common.{◌≡◌, ◌++◌, ◌∷◌, [], false, rules}
use Rattle.registry.proofs.Known.{is_begun, change_begun, change_before, change_none, change_nothing}
use Rattle.registry.specs.Registries.{Known}
use Rattle.registry.proofs.entries.Registry.push.Goals as goal
use Rattle.registry.proofs.entries.Registry.push.Goals.{in_default-via-in-Some+else-begun-id, in_default-via-in_default}

pub returns-in_err-push-in_default-clause-after : goal.returns-in_err-push-in_default-clause-after
returns-in_err-push-in_default-clause-after c =
    let there = c.in-Some-get_mut.host.now in
    let after = record there { rows = c.push-in-Some-get_mut.new.self } in
    rw (← c.self.view_is) (search (rules, change_nothing c.self.inside.hosts (c.get_mut.follows.lender after) c.self.inside.begun c.args.id there after (search rules) (search rules) (search rules)))

pub returns-in_ok-push-in-Some-clause-after : goal.returns-in_ok-push-in-Some-clause-after
returns-in_ok-push-in-Some-clause-after c =
    let begun = c.in-Some.begun in
    let its : begun.id ≡ c.args.id = search rules in
    rw (← c.self.view_is, c.in-Some.is, ← its) (change_begun c.self.inside.hosts.entries begun (record begun.host { rows = c.push.new.self }) (λ k. record k { rows = k.rows ++ c.args.row ∷ [] }) (search rules))

pub returns-in_ok-push-in_default-clause-after : goal.returns-in_ok-push-in_default-clause-after
returns-in_ok-push-in_default-clause-after c =
    let another : is_begun c.self.inside.begun c.args.id ≡ false = elim c.in_default.branch [
      | in_default-via-in-Some+else-begun-id w ↦ rw w.in-Some.is (search rules)
      | in_default-via-in_default w ↦ search rules
    ] in
    let there = c.in-Some-get_mut.host.now in
    let after = record there { rows = c.push-in-Some-get_mut.new.self } in
    let grows : Known → Known = λ k. record k { rows = k.rows ++ c.args.row ∷ [] } in
    rw (← c.self.view_is) (search (rules, change_before c.self.inside.hosts (c.get_mut.follows.lender after) c.self.inside.begun c.args.id there after grows another (search rules) (search rules) (search rules)))

pub returns-in_default-get_mut-clause-after : goal.returns-in_default-get_mut-clause-after
returns-in_default-get_mut-clause-after c =
    let another : is_begun c.self.inside.begun c.args.id ≡ false = elim c.in_default.branch [
      | in_default-via-in-Some+else-begun-id w ↦ rw w.in-Some.is (search rules)
      | in_default-via-in_default w ↦ search rules
    ] in
    let grows : Known → Known = λ k. record k { rows = k.rows ++ c.args.row ∷ [] } in
    rw (← c.self.view_is) (search (rules, change_none c.self.inside.hosts.entries c.self.inside.begun c.args.id grows another (search rules)))
