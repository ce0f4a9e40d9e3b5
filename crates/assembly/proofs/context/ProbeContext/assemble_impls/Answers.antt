use Rattle.std.proofs.Common.{rules}
use Rattle.assembly.proofs.Fronts.{grows_then, grows_refused, refusal_returned}
use Rattle.assembly.proofs.context.ProbeContext.assemble_impls.Goals as goal

pub returns-in_err-assemble_listed_impls : goal.returns-in_err-assemble_listed_impls
returns-in_err-assemble_listed_impls g c =
    let own = (g.H.Host.meaning c.args.self.now.host.now).own c.args.step.self_ty in
    refusal_returned _ _ _ _ _ _ c.from_residual.ensures.1 (grows_refused _ _ _ _ _ (c.in_err-assemble_listed_impls.ensures own (search rules)))

pub returns : goal.returns
returns g c =
    let m = g.H.Host.meaning c.args.self.now.host.now in
    grows_then _ _ _ _ _ (c.in_ok-assemble_listed_impls.ensures (m.own c.args.step.self_ty) (search rules)) _ _ (c.assemble_listed_impls-2.ensures (m.stray c.args.step.self_ty) (search rules))
