-- Facts about the rows that answer.
use Rattle.rows.specs.Rows.{key}
use Rattle.rows.specs.declared.rows.Row.{Row}

-- stands for a row past the end
abbrev pub no_row : Row
no_row = record { key = key 0 0 0 0 0 0 0 0; r1 = 0; r2 = 0; r3 = 0 }
