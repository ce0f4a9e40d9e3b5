-- The items that carry a name.
use Rattle.std.specs.Prelude.{ℕ, ◌+◌, cond, List, [], ◌∷◌, ◌==◌, Option}
use Rattle.std.specs.Option.{option_map}
use Rattle.host.specs.Meaning.{Meaning, listed}
use Rattle.host.specs.declared.forms.Item.{Item}
use Rattle.host.specs.declared.forms.ItemId.{ItemId}
use Rattle.vetting.specs.declared.holders.Container.{Container}

-- the item of a container at a place
abbrev pub id_at : Container → ℕ → ItemId
id_at c p = record { kind = c.kind; container = c.number; place = p }

-- of items that stand from place p on, those with that name
abbrev pub named_from : Container → ℕ → ℕ → List Item → List ItemId
named_from c name p [] = []
named_from c name p (i ∷ is) = cond (i.name == name) (id_at c p ∷ named_from c name (p + 1) is) (named_from c name (p + 1) is)

-- the items of a container that carry a name, by place
abbrev pub carried : Meaning → ℕ → Container → List ItemId
carried m name c = named_from c name 0 (listed (m.item c.kind c.number))

-- the item of a container at a place, with its name
abbrev pub named_at : Meaning → Container → ℕ → Option (ItemId × ℕ)
named_at m c p = option_map (λ i. (id_at c p, i.name)) (m.item c.kind c.number p)
