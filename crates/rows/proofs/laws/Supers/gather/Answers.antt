use Rattle.std.proofs.Common.{map, take, ◌++◌, sym, ap, ◌∙◌, rules}
use borrow.Author.Tests.{tests}
use Rattle.std.proofs.Math.Seq.{take-append_seam}
use Rattle.roll.specs.Rolls.{contents, beyond}
use Rattle.std.specs.Iterator.Adapters.{map_while_source, map_while_callee}
use Rattle.std.proofs.lemmas.Iterator.{YieldsList-from_slice}
use Rattle.std.proofs.lemmas.Iterator.Consumers.{YieldsList-at}
use Rattle.rows.specs.declared.lists.Listing.TheVariants as list
use Rattle.rows.proofs.Fronts.{fronts_yielded}
use Rattle.rows.proofs.Gathering.{entries_are}
use Rattle.rows.proofs.Lawfulness.{supers_are}
use Rattle.rows.proofs.laws.Supers.gather.Goals as goal

pub invariant_of-result : goal.invariant_of-result
invariant_of-result c =
    let rs = c.args.rows.now in
    let t = c.args.tr in
    let os = c.slots_of-slots.result in
    let whole = c.into_iter-row-iterator.ensures.into_iter_gives in
    let slots = YieldsList-at (ap map_while_source whole ∙ c.map_while-row-items.ensures.source) (YieldsList-from_slice os cc) in
    let all = fronts_yielded _ _ _ c.loop-row.yielded _ c.loop-row.yielded_by c.in-None.is c.next.ensures.steps slots (ap map_while_callee whole ∙ c.map_while-row-items.ensures.closure) (λ x o q k. search (rules, tests)) in
    let are = entries_are (list.Supers t) rs os c.slots_of-slots.ensures.asked c.slots_of-slots.ensures.gathered in
    let kept = ap (take c.finish-count.result) c.finish-count.ensures.memory ∙ ap (λ n. take n (contents c.loop-row.list ++ beyond c.loop-row.list)) c.finish-count.ensures.count ∙ take-append_seam (contents c.loop-row.list) (beyond c.loop-row.list) in
    record { whole = kept ∙ c.loop-row.invariant.1 ∙ ap (map (λ r. r.r1)) (all ∙ sym are) ∙ sym (supers_are rs t) }
