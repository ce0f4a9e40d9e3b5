use Rattle.assembly.proofs.Fronts.{step_refused, refusal_returned}
use Rattle.assembly.proofs.context.ProbeContext.assemble_inherent_candidates.Goals as goal

pub returns-in_err-assemble_probe : goal.returns-in_err-assemble_probe
returns-in_err-assemble_probe g c =
    refusal_returned _ _ _ _ _ _ c.from_residual.ensures.1 (step_refused _ _ c.loop-step.step-index _ c.loop-step-test.true _ c.loop-step.invariant _ c.in_err-assemble_probe.ensures)
