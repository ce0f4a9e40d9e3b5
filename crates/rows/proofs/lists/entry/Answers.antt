use Rattle.std.proofs.Common.{sym, ap, ◌∙◌, rules}
use borrow.Author.Tests.{tests}
use Rattle.std.specs.List.{slice_get}
use Rattle.std.proofs.lemmas.Iterator.{YieldsList-from_slice}
use Rattle.std.proofs.lemmas.Iterator.Consumers.{YieldsList-at, nth_from_yields_List}
use Rattle.std.proofs.lemmas.Iterator.Adapters.{option_map_id}
use Rattle.rows.proofs.Fronts.{YieldsList-from_map_while}
use Rattle.rows.proofs.Gathering.{entries_are, entry_past}
use Rattle.rows.proofs.lists.entry.Goals as goal

pub returns-then-place-ge-MOST_ENTRIES : goal.returns-then-place-ge-MOST_ENTRIES
returns-then-place-ge-MOST_ENTRIES c = sym (entry_past _ c.args.place c.if-place-ge-MOST_ENTRIES.true)

pub returns : goal.returns
returns c =
    let os = c.slots_of-slots.result in
    let ran = c.nth.ensures.ran in
    let found = nth_from_yields_List c.nth.result _ c.args.place (ran.0, ran.1, ran.2) (YieldsList-from_map_while _ (YieldsList-at c.map_while.ensures.source (YieldsList-from_slice os cc)) c.map_while.ensures.closure (λ x o q k. search (rules, tests))) in
    sym (option_map_id c.nth.result) ∙ found ∙ ap (λ xs. slice_get xs c.args.place) (sym (entries_are c.args.listing c.args.rows.now os c.slots_of-slots.ensures.asked c.slots_of-slots.ensures.gathered))
