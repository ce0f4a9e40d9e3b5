-- How a fault is told.
use Rattle.std.specs.Prelude.{ℕ, List, ◌++◌, codes, decimal}
use Rattle.script.specs.declared.faults.Fault.{Fault}
use Rattle.script.specs.declared.faults.Fault.TheVariants.{UnknownCommand, TooFewWords, TooManyWords, NotANumber, UnknownHostKind, UnknownQuestion, OutsideList}

abbrev pub reason : Fault → List ℕ
reason UnknownCommand = codes "word 1 is not a command"
reason TooFewWords = codes "too few words"
reason TooManyWords = codes "too many words"
reason (NotANumber word) = codes "word " ++ (decimal word ++ codes " is not a number from 0 to 4294967295")
reason UnknownHostKind = codes "word 3 is not a kind of host"
reason UnknownQuestion = codes "word 3 is not a question from 1 to 10"
reason (OutsideList word) = codes "word " ++ (decimal word ++ codes " is not a number of its list")
