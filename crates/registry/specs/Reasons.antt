-- How a trouble is told.
use Rattle.std.specs.Prelude.{ℕ, List, codes}
use Rattle.registry.specs.declared.troubles.Trouble.{Trouble}
use Rattle.registry.specs.declared.troubles.Trouble.TheVariants.{DeclaredTwice, NotDeclared, NoHostBegun, NoSuchTable, NotOpen, Memory}

abbrev pub reason : Trouble → List ℕ
reason DeclaredTwice = codes "the identifier is declared already"
reason NotDeclared = codes "the identifier is not declared"
reason NoHostBegun = codes "no host is begun"
reason NoSuchTable = codes "the host begun last has no such table"
reason NotOpen = codes "the host is not open"
reason Memory = codes "no memory is left"
