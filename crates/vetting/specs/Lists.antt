-- The lists of numbers behind the list questions.
use Rattle.std.specs.Prelude.{ℕ, Option}
use Rattle.host.specs.Meaning.{Meaning}
use Rattle.vetting.specs.declared.listing.NumberList.{NumberList}
use Rattle.vetting.specs.declared.listing.NumberList.TheVariants as list

-- what a host answers at each place of a list
abbrev pub asked_of : Meaning → NumberList → ℕ → Option ℕ
asked_of m (list.Own t) p = m.own t p
asked_of m (list.Stray t) p = m.stray t p
asked_of m (list.Bounds t) p = m.bound t p
asked_of m (list.Supers t) p = m.supers t p
