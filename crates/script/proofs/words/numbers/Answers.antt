use Rattle.std.proofs.Common.{sym, ◌∙◌, arith}
use Rattle.std.proofs.lemmas.List.{length-set}
use Rattle.script.proofs.Reading.{failed, counted, loop_step, loop_stop, loop_end}
use Rattle.script.proofs.words.numbers.Goals as goal

pub loop-i-preserved : goal.loop-i-preserved
loop-i-preserved g c = (
  simp length-set c.loop-i.invariant.0,
  loop_step c.args.words.now c.loop-i.found c.args.first c.loop-i.i _ c.loop-i.invariant.1
      c.in_ok-found.field-0 (omega arith) (omega (arith, c.loop-i.invariant.0)) c.in_ok-found.ensures,
)

pub returns-in_err-found : goal.returns-in_err-found
returns-in_err-found g c =
    failed c.from_residual.result c.in_err-found.field-0.0 c.from_residual.ensures.1 ∙
    sym (counted g.row.N c.args.words.now _ (omega arith) ∙
    loop_stop c.args.words.now c.loop-i.found c.args.first c.loop-i.i _ c.loop-i.invariant.1
    c.in_err-found.field-0.0 (omega arith) c.in_err-found.ensures)

pub returns : goal.returns
returns g c =
    sym (counted g.row.N c.args.words.now _ (omega arith) ∙
    loop_end c.args.words.now c.loop-i.found c.args.first c.loop-i.i _ c.loop-i.invariant.1
    (omega arith) (omega (arith, c.loop-i.invariant.0)))
