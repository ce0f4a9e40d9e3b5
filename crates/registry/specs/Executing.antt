-- What a command of a script does.
use Rattle.std.specs.Prelude.{◌≡◌, ℕ, if◌then◌else◌, is_ok, Ok, Err, Some, None, Option, Result}
use Rattle.script.specs.declared.commands.Command.{Command}
use Rattle.script.specs.declared.commands.Command.TheVariants as command
use Rattle.registry.specs.declared.executing.Reply.{Reply}
use Rattle.registry.specs.declared.executing.Reply.TheVariants.{Opened, Answered}
use Rattle.registry.specs.declared.troubles.Trouble.{Trouble}
use Rattle.registry.specs.Registries.{State, Told, declare_wrong, with_host, table_wrong, begun_last, with_row, Opens, kind_of, opened_last, asked_of}

-- A command that answers nothing: it is told by what is wrong, and `done` is the state where nothing is.
abbrev pub Quietly : Option Trouble → State → State → Result (Option Reply) Trouble → State → Type 0
Quietly wrong done s r s' = Told wrong r × (s' ≡ (if is_ok r then done else s)) × ((a : Option Reply) → r ≡ Ok a → a ≡ None)

-- An opening, whose answer is passed on.
abbrev pub OpensWith : State → ℕ → Result (Option Reply) Trouble → State → Type 0
OpensWith s id (Ok (Some (Opened r))) s' = Opens s id (Ok r) s'
OpensWith s id (Ok (Some (Answered a))) s' = ⊥
OpensWith s id (Ok None) s' = ⊥
OpensWith s id (Err t) s' = Opens s id (Err t) s'

-- an answer passed on, in a reply
abbrev pub answered : {A : Type 0} → Result A Trouble → (A → Reply) → Result (Option Reply) Trouble
answered (Ok a) f = Ok (Some (f a))
answered (Err t) f = Err t

-- Each command does what the call of its name does.
abbrev pub Executes : State → Command → Result (Option Reply) Trouble → State → Type 0
Executes s command.Nothing r s' = (r ≡ Ok None) × (s' ≡ s)
Executes s (command.Host id k) r s' = Quietly (declare_wrong s id) (with_host s id k) s r s'
Executes s (command.Row row) r s' = Quietly (table_wrong (begun_last s)) (with_row s row) s r s'
Executes s (command.Open id) r s' = OpensWith s id r s'
Executes s (command.Ask id q) r s' = (r ≡ answered (asked_of (kind_of s id) (opened_last s id) q) Answered) × (s' ≡ s)
