-- What opening a table answers.
use Rattle.std.specs.Prelude.{◌≡◌, List, Ok, Err, vec_items, Result}
use Rattle.host.specs.Law.{SupertraitLaw, SupertraitLawFails}
use Rattle.host.specs.declared.refusals.Refusal.{Refusal}
use Rattle.host.specs.declared.refusals.Refusal.TheVariants.{UnlawfulSupertraits}
use Rattle.rows.specs.Tables.{tabled}
use Rattle.rows.specs.declared.rows.Row.{Row}
use Rattle.tabled.specs.declared.table.TabledHost.{TabledHost}

-- A host over just these rows where the supertrait law holds at every trait of 32 bits; refused where it fails at one.
abbrev pub Opened : List Row → Result TabledHost Refusal → Type 0
Opened rs (Ok h) = (vec_items h.rows ≡ rs) × SupertraitLaw (tabled rs)
Opened rs (Err e) = (e ≡ UnlawfulSupertraits) × SupertraitLawFails (tabled rs)
