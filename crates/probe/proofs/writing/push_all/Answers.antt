use Rattle.std.proofs.iter.runs.Consumers.{total_runs}
use Rattle.probe.specs.Writing.{Writes}
use Rattle.probe.proofs.Written.{writes_more}
use Rattle.probe.proofs.writing.push_all.Goals as goal

pub loop-item-preserved : goal.loop-item-preserved
loop-item-preserved g c = writes_more _ _ _ _ _ _ c.loop-item.invariant c.push.ensures.lent c.push.ensures.pushed

pub returns : goal.returns
returns g c =
    rw (← c.into_iter-item-iterator.ensures.into_iter_gives)
    (total_runs g.I.Iterator.next_gives c.into_iter-item-iterator.result (Unit {0}) (λ xs. Writes c.args.list.now xs c.loop-item.list)
    (c.loop-item.yielded, λ _. (c.next.new.self, (c.loop-item.item-iterator, c.loop-item.yielded_by, c.in-None.ensures.steps)), c.loop-item.invariant) tt)
