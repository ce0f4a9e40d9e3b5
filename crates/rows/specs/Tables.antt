-- What a table of rows means.
use Rattle.std.specs.Prelude.{ℕ, Bool, false, not, List, Some, None, Option, ◌==◌}
use Rattle.std.specs.Option.{option_map, unwrap_or}
use Rattle.std.specs.List.{slice_get}
use Rattle.host.specs.Meaning.{Meaning}
use Rattle.host.specs.Numbers.{member, form_number, forms, sort_number, sorts}
use Rattle.host.specs.declared.forms.Form.{Form}
use Rattle.host.specs.declared.forms.Form.TheVariants.{Other}
use Rattle.host.specs.declared.forms.Item.{Item}
use Rattle.host.specs.declared.forms.Sort.{Sort}
use Rattle.host.specs.declared.forms.Sort.TheVariants.{Alias}
use Rattle.host.specs.declared.forms.TypeForm.{TypeForm}
use Rattle.host.specs.declared.questions.Question.TheVariants as asks
use Rattle.rows.specs.declared.lists.Listing.TheVariants as list
use Rattle.rows.specs.declared.rows.Row.{Row}
use Rattle.rows.specs.Rows.{row_for}
use Rattle.rows.specs.Lists.{entries}

-- an unknown number reads as other
abbrev pub form_named : ℕ → Form
form_named n = unwrap_or (member form_number forms n) Other

-- an unknown number reads as an alias
abbrev pub sort_named : ℕ → Sort
sort_named n = unwrap_or (member sort_number sorts n) Alias

-- any number but 0 is yes
abbrev pub mark : ℕ → Bool
mark n = not (n == 0)

-- what each kind of answer is read from: the row that answers, or none
abbrev pub form_in : Option Row → TypeForm
form_in None = record { form = Other; definition = 0; boxed_slice = false }
form_in (Some r) = record { form = form_named r.r1; definition = r.r2; boxed_slice = mark r.r3 }

abbrev pub number_in : Option Row → Option ℕ
number_in o = option_map (λ r. r.r1) o

abbrev pub item_of : Row → Item
item_of r = record { name = r.r1; sort = sort_named r.r2; has_self = mark r.r3 }

abbrev pub item_in : Option Row → Option Item
item_in o = option_map item_of o

abbrev pub mark_in : Option Row → Bool
mark_in None = false
mark_in (Some r) = mark r.r1

abbrev pub marks_in : Option Row → Bool × Bool
marks_in None = (false, false)
marks_in (Some r) = (mark r.r1, mark r.r2)

-- The answers of a host over these rows.
abbrev pub tabled : List Row → Meaning
tabled rs = record {
  form = λ t. form_in (row_for rs (asks.Form t));
  own = λ t p. number_in (slice_get (entries rs (list.Own t)) p);
  stray = λ t p. number_in (slice_get (entries rs (list.Stray t)) p);
  item = λ k c p. item_in (slice_get (entries rs (list.Items k c)) p);
  bound = λ t p. number_in (slice_get (entries rs (list.Bounds t)) p);
  supers = λ t p. number_in (slice_get (entries rs (list.Supers t)) p);
  visible = λ k c p. mark_in (row_for rs (asks.Visible (record { kind = k; container = c; place = p })));
  skips = λ t. marks_in (row_for rs (asks.Skips t));
  applies = λ k c p o t w d. mark_in (row_for rs (asks.Applies (record { class = k; container = c; place = p; origin = o; ty = t; wrap = w; mode = d })));
  source = λ c p t w d. number_in (row_for rs (asks.Source (record { tr = c; place = p; ty = t; wrap = w; mode = d })));
}
