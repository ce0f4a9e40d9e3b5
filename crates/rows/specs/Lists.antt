-- The lists behind the list questions.
use Rattle.std.specs.Prelude.{◌≡◌, ℕ, ◌<◌, cond, List, [], ◌∷◌, ◌++◌, length, Some, None, Option, slice_index_or}
use Rattle.std.specs.Option.{option_or}
use Rattle.host.specs.Meaning.{listed}
use Rattle.host.specs.declared.questions.Question.{Question}
use Rattle.host.specs.declared.questions.Question.TheVariants as asks
use Rattle.rows.specs.declared.lists.Listing.{Listing}
use Rattle.rows.specs.declared.lists.Listing.TheVariants as list
use Rattle.rows.specs.declared.rows.Row.{Row}
use Rattle.rows.specs.declared.rows.Key.{Key}
use Rattle.rows.specs.Rows.{key_of, fits, first_row, asked_rows}

-- a list's question at a place
abbrev pub at : Listing → ℕ → Question
at (list.Own t) p = asks.Own t p
at (list.Stray t) p = asks.Stray t p
at (list.Items k c) p = asks.Item (record { kind = k; container = c; place = p })
at (list.Bounds t) p = asks.Bound t p
at (list.Supers t) p = asks.Supers t p

-- where a row of the list has its place
abbrev pub place_of : Listing → Row → ℕ
place_of (list.Own t) r = r.key.a2
place_of (list.Stray t) r = r.key.a2
place_of (list.Items k c) r = r.key.a3
place_of (list.Bounds t) r = r.key.a2
place_of (list.Supers t) r = r.key.a2

-- the row that says of a trait that its supers begin with itself
abbrev pub itself : ℕ → Row
itself t = record { key = key_of (asks.Supers t 0); r1 = t; r2 = 0; r3 = 0 }

-- what stands behind all rows: supers begin with the trait itself where no row says otherwise
abbrev pub default_rows : Listing → List Row
default_rows (list.Own t) = []
default_rows (list.Stray t) = []
default_rows (list.Items k c) = []
default_rows (list.Bounds t) = []
default_rows (list.Supers t) = itself t ∷ []

abbrev pub all_rows : List Row → Listing → List Row
all_rows rs l = rs ++ default_rows l

-- the row of a list at a place, if there is one
abbrev pub row_at : List Row → Listing → ℕ → Option Row
row_at rs l p = first_row (all_rows (asked_rows rs (at l p)) l) (key_of (at l p))

-- The rows of a list: one for each place from 0 on, up to the first place with none, at most 64.
abbrev pub entries : List Row → Listing → List Row
entries rs l = listed (row_at rs l)

-- a row where it has that key
abbrev pub matched : Row → Key → Option Row
matched r k = cond (fits r k) (Some r) None

-- a row more was looked at: it stands at each place that it answers for and that had none
pub record Noted (l : Listing) (r : Row) (before after : List (Option Row)) : Type 0 where
  pub size : length after ≡ length before
  pub slots : (p : ℕ) → p < 64 → slice_index_or after p None ≡ option_or (slice_index_or before p None) (matched r (key_of (at l p)))

-- at each place the first row that answers there
pub record Gathered (l : Listing) (rs : List Row) (slots : List (Option Row)) : Type 0 where
  pub size : length slots ≡ 64
  pub firsts : (p : ℕ) → p < 64 → slice_index_or slots p None ≡ first_row rs (key_of (at l p))
