use Rattle.std.proofs.Common.{arith, rules}
use Rattle.scope.proofs.Tables.{no_room, arrives, all_out, rises, admit_keeps}
use Rattle.scope.proofs.shape.Scope.admit.Goals as goal

pub returns-in-Some : goal.returns-in-Some
returns-in-Some c =
    let at = c.in-Some.ensures in
    all_out _ _ _ c.self.view_is (search rules) c.self.invariant _ _ at.0 at.1 c.if-self-i.true

pub returns-in-Some-2 : goal.returns-in-Some-2
returns-in-Some-2 c =
    let at = c.in-Some.ensures in
    rises _ _ _ c.self.view_is (search rules) c.self.invariant _ _ at.0 at.1 _ (search rules) c.if-self-i.false

pub invariant_of-self : goal.invariant_of-self
invariant_of-self c = admit_keeps _ _ _ c.self.view_is (search rules) c.self.invariant _ _ _ (search rules) (returns-in-Some-2 c)

pub returns-in-None : goal.returns-in-None
returns-in-None c =
    no_room _ _ _ c.self.view_is (search rules) c.self.invariant _ c.in-None.ensures c.if-self-eq-MOST_TRAITS.true

pub returns-in-None-2 : goal.returns-in-None-2
returns-in-None-2 c =
    arrives _ _ _ c.self.view_is (search rules) c.self.invariant _ c.in-None.ensures (omega arith)

pub invariant_of-self-in-None-2 : goal.invariant_of-self-in-None-2
invariant_of-self-in-None-2 c = admit_keeps _ _ _ c.self.view_is (search rules) c.self.invariant _ _ _ (omega arith) (returns-in-None-2 c)
