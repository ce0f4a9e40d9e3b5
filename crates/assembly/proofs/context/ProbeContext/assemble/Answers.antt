use Rattle.std.proofs.lemmas.Result.{err_from_is_err_and}
use Rattle.assembly.proofs.Scoping.{fresh_holds, assembled, refused_at_steps}
use Rattle.assembly.proofs.context.ProbeContext.assemble.Goals as goal

pub returns-in_err-assemble_inherent_candidates : goal.returns-in_err-assemble_inherent_candidates
returns-in_err-assemble_inherent_candidates g c f =
    let p = err_from_is_err_and c.from_residual.result c.from_residual.ensures.1 in
    rw (p.1, p.2) (refused_at_steps _ _ _ (c.in_err-assemble_inherent_candidates.ensures _ (fresh_holds _ _ f)))

pub returns : goal.returns
returns g c f =
    assembled _ _ _ (c.assemble_extension_candidates_for_traits_in_scope.ensures (c.in_ok-assemble_inherent_candidates.ensures _ (fresh_holds _ _ f)))
