use Rattle.std.proofs.Common.{◌≡◌, Err, Some, false, rules, subst}
use Rattle.registry.specs.Registries.{Opens, state_of}
use Rattle.registry.specs.declared.troubles.Trouble.TheVariants.{NotDeclared}
use Rattle.registry.proofs.Known.{is_begun, known_before, opened_begun, opened_before}
use Rattle.registry.proofs.entries.Registry.open.Goals as goal
use Rattle.registry.proofs.entries.Registry.open.Goals.{in_default-via-in-Some+else-begun-id, in_default-via-in_default}

pub returns-in-Some : goal.returns-in-Some
returns-in-Some c =
    let begun = c.in-Some.begun in
    let its : begun.id ≡ c.args.id = search rules in
    let was : state_of c.self.inside.hosts.entries (Some begun) ≡ c.args.self.now = search rules in
    let after = state_of c.self.inside.hosts.entries (Some (record { id = begun.id; host = record begun.host { opened = c.reopen.new.opened } })) in
    subst (λ k. Opens c.args.self.now k c.reopen.result after) its
    (subst (λ s. Opens s begun.id c.reopen.result after) was
    (opened_begun c.self.inside.hosts.entries begun c.reopen.new.opened c.reopen.result (search rules)))

pub returns-in_err-host-in_default : goal.returns-in_err-host-in_default
returns-in_err-host-in_default c =
    let another : is_begun c.self.inside.begun c.args.id ≡ false = elim c.in_default.branch [
      | in_default-via-in-Some+else-begun-id w ↦ rw w.in-Some.is (search rules)
      | in_default-via-in_default w ↦ search rules
    ] in
    let refused : c.from_residual.result ≡ Err NotDeclared = search rules in
    rw (refused, ← c.self.view_is, known_before c.self.inside.hosts.entries c.self.inside.begun c.args.id another) (search rules)

pub returns-in_ok-host-in_default : goal.returns-in_ok-host-in_default
returns-in_ok-host-in_default c =
    let another : is_begun c.self.inside.begun c.args.id ≡ false = elim c.in_default.branch [
      | in_default-via-in-Some+else-begun-id w ↦ rw w.in-Some.is (search rules)
      | in_default-via-in_default w ↦ search rules
    ] in
    let there = c.in_ok-host-in_default.host.now in
    let reopened = c.reopen-in_default in
    let lender = c.get_mut.follows.lender (record there { opened = reopened.new.opened }) in
    let inside : c.in_default.self-inside ≡ c.self.inside = search rules in
    subst (λ s. Opens s c.args.id reopened.result (state_of lender.entries c.in_default.self-inside.begun)) c.self.view_is
    (rw inside (opened_before c.self.inside.hosts lender c.self.inside.begun c.args.id there reopened.new.opened reopened.result another (search rules) (search rules) (search rules)))
