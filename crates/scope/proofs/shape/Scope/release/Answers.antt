use Rattle.std.proofs.Common.{arith, rules}
use Rattle.scope.proofs.Tables.{none_out, falls, leaves, release_keeps}
use Rattle.scope.proofs.shape.Scope.release.Goals as goal

pub returns-in_default : goal.returns-in_default
returns-in_default c =
    none_out _ _ _ c.self.view_is (search rules) c.self.invariant _ c.in_default.ensures

pub returns-then-self-i-gt1 : goal.returns-then-self-i-gt1
returns-then-self-i-gt1 c =
    let at = c.in-Some.ensures in
    falls _ _ _ c.self.view_is (search rules) c.self.invariant _ _ at.0 at.1 _ (search rules) c.if-self-i-gt1.true

pub invariant_of-self : goal.invariant_of-self
invariant_of-self c = release_keeps _ _ _ c.self.view_is (search rules) c.self.invariant _ _ _ (search rules) (returns-then-self-i-gt1 c)

pub returns-else-self-i-gt1 : goal.returns-else-self-i-gt1
returns-else-self-i-gt1 c =
    let at = c.in-Some.ensures in
    leaves _ _ _ c.self.view_is (search rules) c.self.invariant _ _ at.0 at.1 c.if-self-i-gt1.false _ c.copy_within.ensures.after

pub invariant_of-self-else-self-i-gt1 : goal.invariant_of-self-else-self-i-gt1
invariant_of-self-else-self-i-gt1 c =
    release_keeps _ _ _ c.self.view_is (search rules) c.self.invariant _ _ _ (omega arith) (returns-else-self-i-gt1 c)
