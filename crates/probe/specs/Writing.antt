-- Elements that go on a roll one behind another.
use Rattle.std.specs.Prelude.{◌≡◌, ◌≤◌, List, ◌++◌, length, drop}
use Rattle.roll.specs.Rolls.{contents, beyond}
use Rattle.roll.specs.declared.shape.Roll.{Roll}

-- the roll has grown by these, over the memory that lay behind it
pub record Wrote {X : Type 0} (before : Roll X) (xs : List X) (after : Roll X) : Type 0 where
  pub on_it : contents after ≡ contents before ++ xs
  pub behind : beyond after ≡ drop (length xs) (beyond before)

-- The roll keeps the memory lent to it, and has grown where that suffices.
pub record Writes {X : Type 0} (before : Roll X) (xs : List X) (after : Roll X) : Type 0 where
  pub lent : after.items.ghost_name ≡ before.items.ghost_name
  pub wrote : length xs ≤ length (beyond before) → Wrote before xs after
