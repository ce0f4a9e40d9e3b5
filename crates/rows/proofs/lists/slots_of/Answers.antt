use Rattle.std.proofs.Common.{◌≡◌, get_or, take, sym, ap, ◌∙◌, subst}
use Rattle.std.proofs.lemmas.List.{take_more}
use Rattle.rows.specs.Rows.{key_of}
use Rattle.rows.specs.Lists.{at, Noted, Gathered}
use Rattle.rows.proofs.Answering.{no_row}
use Rattle.rows.proofs.Gathering.{gathered_none, gathered_more, gathered_all, gathered_default, passed_over}
use Rattle.rows.proofs.lists.slots_of.Goals as goal
use Rattle.rows.proofs.lists.slots_of.Goals.{then-row-first, else-row-first}

pub loop-row-init : goal.loop-row-init
loop-row-init c = gathered_none c.args.listing

pub loop-row-preserved : goal.loop-row-preserved
loop-row-preserved c =
    let rows = c.args.rows.now in
    let i = c.loop-row.row-index in
    let l = c.args.listing in
    let row = get_or rows i no_row in
    let first : c.from-first.result.question ≡ (key_of (at l 0)).question = ap (λ k. k.question) (c.from-first.ensures.0 ∙ ap key_of c.at.ensures.value) in
    let noted : Noted l row c.loop-row.slots c.if-row-first.slots = elim c.if-row-first.branch [
      | then-row-first w ↦ subst (λ os. Noted l row c.loop-row.slots os) (sym w.slots-is) w.note.ensures
      | else-row-first w ↦ subst (λ os. Noted l row c.loop-row.slots os) (sym w.slots-is) (passed_over l row c.loop-row.slots (λ e. w.if-row-first.false (e ∙ sym first)))
    ] in
    subst (λ rs. Gathered l rs c.if-row-first.slots) (sym (take_more rows i no_row c.loop-row-test.true)) (gathered_more l (take i rows) row c.loop-row.slots c.if-row-first.slots c.loop-row.invariant noted)

pub returns-in-Supers-clause-gathered : goal.returns-in-Supers-clause-gathered
returns-in-Supers-clause-gathered c =
    let rows = c.args.rows.now in
    let l = c.args.listing in
    let all = gathered_all l rows c.loop-row.row-index c.loop-row.slots c.loop-row-test.false c.loop-row.invariant in
    gathered_default l c.in-Supers.tr c.itself.result rows c.loop-row.slots c.note-in-Supers.new.slots c.in-Supers.is c.itself.ensures all c.note-in-Supers.ensures
