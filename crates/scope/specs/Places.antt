-- Where a trait's entry is. Only the contract of a private search cites this.
use Rattle.std.specs.Prelude.{◌≡◌, ℕ, ◌<◌, List, length, Some, None, Option, slice_index_or}
use Rattle.host.specs.Meaning.{◌∈◌}
use Rattle.scope.specs.Entries.{traits_of}
use Rattle.scope.specs.declared.entries.Entry.{Entry}

-- what a place past the end is read as
abbrev pub no_entry : Entry
no_entry = record { tr = 0; claims = 0 }

-- the trait t stands at the place, or is not in scope
abbrev pub PlaceOf : List Entry → ℕ → Option ℕ → Type 0
PlaceOf es t None = t ∈ traits_of es → ⊥
PlaceOf es t (Some i) = (i < length es) × ((slice_index_or es i no_entry).tr ≡ t)
