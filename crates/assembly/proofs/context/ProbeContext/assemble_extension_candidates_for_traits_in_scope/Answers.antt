use Rattle.std.proofs.Common.{◌≤◌, length, sym, subst}
use Rattle.assembly.proofs.Scoping.{scope_more}
use Rattle.assembly.proofs.context.ProbeContext.assemble_extension_candidates_for_traits_in_scope.Goals as goal

pub loop-entry-preserved : goal.loop-entry-preserved
loop-entry-preserved g c h =
    let few = subst (λ es. length es ≤ 64) (sym c.entries-entry-items.ensures.are) c.entries-entry-items.ensures.few in
    scope_more _ c.entries-entry-items.result.now few c.loop-entry.entry-index _ c.loop-entry-test.true _ (c.loop-entry.invariant h) c.assemble_offer.result _ c.assemble_offer.ensures
