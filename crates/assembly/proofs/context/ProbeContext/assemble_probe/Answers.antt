use Rattle.std.proofs.Common.{rules}
use Rattle.assembly.proofs.Fronts.{object_grown, object_refused, refusal_returned}
use Rattle.assembly.proofs.context.ProbeContext.assemble_probe.Goals as goal

pub returns-in_err-assemble_listed-in-Dynamic : goal.returns-in_err-assemble_listed-in-Dynamic
returns-in_err-assemble_listed-in-Dynamic g c =
    let supers = (g.H.Host.meaning c.args.self.now.host.now).supers c.form-ty.result.definition in
    refusal_returned _ _ _ _ _ _ c.from_residual.ensures.1
    (object_refused _ c.args.step _ _ c.form-ty.ensures c.in-Dynamic.is _ (c.in_err-assemble_listed-in-Dynamic.ensures supers (search rules)))

pub returns-in_ok-assemble_listed-in-Dynamic : goal.returns-in_ok-assemble_listed-in-Dynamic
returns-in_ok-assemble_listed-in-Dynamic g c =
    let supers = (g.H.Host.meaning c.args.self.now.host.now).supers c.form-ty.result.definition in
    object_grown _ c.args.step _ _ c.form-ty.ensures c.in-Dynamic.is _ (c.in_ok-assemble_listed-in-Dynamic.ensures supers (search rules)) c.assemble_impls.result _ c.assemble_impls.ensures
