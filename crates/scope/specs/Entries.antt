-- Lists of entries. The struct's model cites these words, so nothing here names the struct.
use Rattle.std.specs.Prelude.{ℕ, ◌<◌, ◌≤◌, List, map, ◌==◌, find}
use Rattle.std.specs.Option.{option_map, unwrap_or}
use Rattle.host.specs.Meaning.{◌∈◌}
use Rattle.scope.specs.Lists.{Distinct}
use Rattle.scope.specs.declared.entries.Entry.{Entry}

-- the traits, in order of arrival
abbrev pub traits_of : List Entry → List ℕ
traits_of es = map (λ (e : Entry). e.tr) es

-- how many claims on the trait t are out: none where it is not listed
abbrev pub claims_on : List Entry → ℕ → ℕ
claims_on es t = unwrap_or (option_map (λ (e : Entry). e.claims) (find (λ (e : Entry). e.tr == t) es)) 0

-- each trait listed has a claim out, and at most 65535
abbrev pub Claimed : List Entry → Type 0
Claimed es = (t : ℕ) → t ∈ traits_of es → (0 < claims_on es t) × (claims_on es t ≤ 65535)

-- what is so of the entries of every scope: no trait has two, and each has a claim out
pub record Valid (es : List Entry) : Type 0 where
  pub distinct : Distinct (traits_of es)
  pub claimed : Claimed es
