use Rattle.assembly.proofs.Fronts.{offered_to_absent, offered_to_end, offered_more, offered_refused, refusal_returned}
use Rattle.assembly.proofs.context.ProbeContext.assemble_listed.Goals as goal

pub returns-in_default : goal.returns-in_default
returns-in_default g c f h = offered_to_absent _ f _ _ _ _ (c.loop-place.invariant f h) c.loop-place-test.true (h _ _ c.in_default.ensures)

pub returns-in_err-assemble_offer : goal.returns-in_err-assemble_offer
returns-in_err-assemble_offer g c f h =
    refusal_returned _ _ _ _ _ _ c.from_residual.ensures.1 (offered_refused _ f _ _ _ _ (c.loop-place.invariant f h) c.loop-place-test.true _ (h _ _ c.in-Some.ensures) _ c.in_err-assemble_offer.ensures)

pub loop-place-preserved : goal.loop-place-preserved
loop-place-preserved g c f h = offered_more _ f _ _ _ _ (c.loop-place.invariant f h) c.loop-place-test.true _ (h _ _ c.in-Some.ensures) _ c.in_ok-assemble_offer.ensures

pub returns : goal.returns
returns g c f h = offered_to_end _ f _ _ _ _ (c.loop-place.invariant f h) c.loop-place-test.false
