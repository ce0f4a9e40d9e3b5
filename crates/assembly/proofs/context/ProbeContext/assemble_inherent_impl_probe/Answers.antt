use Rattle.std.proofs.Common.{◌≡◌, sym, refl, rules}
use Rattle.std.proofs.lemmas.Result.{err_from_is_err_and}
use Rattle.method_resolution.specs.Types.{TooManyImpls}
use Rattle.assembly.proofs.Offering.{grown_by_repeat, refused_impl, grown_by_impl, lists_stay}
use Rattle.assembly.proofs.context.ProbeContext.assemble_inherent_impl_probe.Goals as goal

pub returns-then-has : goal.returns-then-has
returns-then-has g c offered h = grown_by_repeat _ offered c.args.impl_def_id c.args.receiver_steps _ h c.if-has.ensures

pub returns-in_err-map_err : goal.returns-in_err-map_err
returns-in_err-map_err g c offered h =
    let p = err_from_is_err_and c.from_residual.result c.from_residual.ensures.1 in
    let e : c.in_err-map_err.field-0.0 ≡ TooManyImpls = search rules in
    rw (p.1, p.2, e) (refused_impl _ offered c.args.impl_def_id c.args.receiver_steps _ h c.if-has.ensures _ c.push.result (sym c.in_err-map_err.ensures.variant) c.push.ensures.pushed)

pub returns : goal.returns
returns g c offered h =
    grown_by_impl _ offered c.args.impl_def_id c.args.receiver_steps _ h c.if-has.ensures _ c.push.result (sym c.in_ok-map_err.ensures.variant) c.push.ensures.pushed c.assemble_item.result _
    (c.assemble_item.ensures _ (lists_stay _ _ _ _ refl refl refl h.candidates))
