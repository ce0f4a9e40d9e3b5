use Rattle.std.specs.Option.{option_map}
use Rattle.std.proofs.Common.{sym, ap, ◌∙◌, arith}
use Rattle.assembly.specs.Growth.{item_at}
use Rattle.assembly.proofs.Naming.{served_item, start, absent, hit, miss, end}
use Rattle.assembly.proofs.context.ProbeContext.impl_or_trait_item.Goals as goal

pub loop-place-init : goal.loop-place-init
loop-place-init g c = start _ _ _

pub returns-in_err-item : goal.returns-in_err-item
returns-in_err-item g c =
    rw c.from_residual.ensures
    (sym (ap (option_map (item_at c.args.kind c.args.container)) (c.loop-place.invariant ∙ absent _ _ _ _ c.loop-place-test.true c.in_err-item.ensures)))

pub returns-then-is_named : goal.returns-then-is_named
returns-then-is_named g c =
    c.then_some.ensures ∙ served_item (item_at c.args.kind c.args.container) _ _
    ∙ ap (option_map (item_at c.args.kind c.args.container))
    (hit _ _ _ _ c.loop-place-test.true _ c.in_ok-item.ensures c.if-is_named.ensures _ c.has_applicable_self.ensures ∙ sym c.loop-place.invariant)

pub loop-place-preserved : goal.loop-place-preserved
loop-place-preserved g c = c.loop-place.invariant ∙ miss _ _ _ _ c.loop-place-test.true _ c.in_ok-item.ensures c.if-is_named.ensures

pub returns : goal.returns
returns g c = sym (ap (option_map (item_at c.args.kind c.args.container)) (c.loop-place.invariant ∙ end _ _ _ _ _ (omega arith)))
