-- What is left, behind what was read, gives the numbers of the whole.
use Rattle.std.proofs.Common.{◌≡◌, ◌+◌, length, take, drop}
use Rattle.script.specs.Grammar.{texts, numbers_from}
use Rattle.script.proofs.Reading.{behind}
use Rattle.script.proofs.words.numbers.Given as goal

abbrev pub invariant-loop-i : goal.invariant-loop-i
invariant-loop-i g l =
    (length l.found ≡ g.row.N) ×
    (behind (take l.i l.found) (numbers_from (l.first + l.i) (drop l.i (texts l.words))) ≡ numbers_from l.first (texts l.words))
