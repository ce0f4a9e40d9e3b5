-- The containers of which rows of question 4 give items.
use Rattle.std.specs.Prelude.{Bool, cond, ◌&&◌, List, None, Option, ◌==◌}
use Rattle.std.specs.Option.{option_map, option_to_list}
use Rattle.host.specs.Numbers.{member, container_number, container_kinds, question_number}
use Rattle.host.specs.declared.forms.ContainerKind.{ContainerKind}
use Rattle.host.specs.declared.forms.QuestionKind.TheVariants.{Item}
use Rattle.rows.specs.declared.rows.Row.{Row}
use Rattle.vetting.specs.declared.holders.Container.{Container}

-- the same kind, and the same number
abbrev pub same_container : Container → Container → Bool
same_container x y = container_number x.kind == container_number y.kind && x.number == y.number

-- the container of that kind whose number a row has
abbrev pub numbered : Row → ContainerKind → Container
numbered r k = record { kind = k; number = r.key.a2 }

-- the container of a row of an item, question 4; none in another row, or where the kind is unknown
abbrev pub container_in : Row → Option Container
container_in r = cond (r.key.question == question_number Item) (option_map (numbered r) (member container_number container_kinds r.key.a1)) None

-- the same, as a list
abbrev pub held : Row → List Container
held r = option_to_list (container_in r)
