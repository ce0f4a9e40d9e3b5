-- The state of a registry, and what each call does to it.
use Rattle.std.specs.Prelude.{◌≡◌, ℕ, if◌then◌else◌, ◌⊎◌, List, [], ◌∷◌, ◌++◌, is_some, Some, None, Ok, Err, vec_items, Option, Result, unwrap_or, map as each}
use Rattle.std.specs.FinMap as map
use Rattle.std.specs.Option.{option_map, option_and_then}
use Rattle.std.specs.Ordering.{nat_cmp}
use Rattle.host.specs.Law.{SupertraitLawFails, empty_host}
use Rattle.host.specs.Meaning.{Meaning}
use Rattle.host.specs.Questions.{answer}
use Rattle.host.specs.declared.questions.Answer.{Answer}
use Rattle.host.specs.declared.questions.Question.{Question}
use Rattle.host.specs.declared.refusals.Refusal.{Refusal}
use Rattle.host.specs.declared.refusals.Refusal.TheVariants.{UnlawfulSupertraits}
use Rattle.rows.specs.Tables.{tabled}
use Rattle.rows.specs.declared.rows.Row.{Row}
use Rattle.script.specs.declared.commands.HostKind.{HostKind}
use Rattle.script.specs.declared.commands.HostKind.TheVariants as kind
use Rattle.registry.specs.AnyHosts.{any_meaning}
use Rattle.registry.specs.declared.any.AnyHost.{AnyHost}
use Rattle.registry.specs.declared.entries.Begun.{Begun}
use Rattle.registry.specs.declared.entries.Declared.{Declared}
use Rattle.registry.specs.declared.troubles.Trouble.{Trouble}
use Rattle.registry.specs.declared.troubles.Trouble.TheVariants.{DeclaredTwice, NotDeclared, NoHostBegun, NoSuchTable, NotOpen, Memory}

-- what is known of a host that was begun: its kind, the rows given for it in their order, and the host opened for it last
pub record Known : Type 0 where
  pub kind : HostKind
  pub rows : List Row
  pub opened : Option AnyHost

-- what is known of each identifier, and the one that was begun last
pub record State : Type 0 where
  pub hosts : map.FinMap nat_cmp Known
  pub begun : Option ℕ

abbrev pub known : Declared → Known
known d = record { kind = d.kind; rows = vec_items d.rows; opened = d.opened }

-- what is known of the hosts with these identifiers
abbrev pub known_each : List (ℕ × Declared) → map.FinMap nat_cmp Known
known_each es = map.from_entries (each (λ e. (e.0, known e.1)) es)

-- the state of these hosts and the one begun last
abbrev pub state_of : List (ℕ × Declared) → Option Begun → State
state_of es None = record { hosts = known_each es; begun = None }
state_of es (Some b) = record { hosts = map.insert (known_each es) b.id (known b.host); begun = Some b.id }

abbrev pub no_hosts : State
no_hosts = record { hosts = map.empty; begun = None }

-- of which kind the host with that identifier is
abbrev pub kind_of : State → ℕ → Option HostKind
kind_of s id = option_map (λ k. k.kind) (map.get s.hosts id)

-- the rows given for it, in their order
abbrev pub rows_of : State → ℕ → List Row
rows_of s id = unwrap_or (option_map (λ k. k.rows) (map.get s.hosts id)) []

-- the host that was opened for it last
abbrev pub opened_last : State → ℕ → Option AnyHost
opened_last s id = option_and_then (λ k. k.opened) (map.get s.hosts id)

-- the host begun last
abbrev pub begun_last : State → Option Known
begun_last s = option_and_then (map.get s.hosts) s.begun

-- An answer told by what is wrong, if anything is; only where nothing is, memory may be wanting.
abbrev pub Told : {X : Type 0} → Option Trouble → Result X Trouble → Type 0
Told wrong (Ok x) = wrong ≡ None
Told wrong (Err t) = (wrong ≡ Some t) ⊎ ((wrong ≡ None) × (t ≡ Memory))

-- A host is begun where its identifier is new.
abbrev pub declare_wrong : State → ℕ → Option Trouble
declare_wrong s id = if is_some (kind_of s id) then Some DeclaredTwice else None

abbrev pub with_host : State → ℕ → HostKind → State
with_host s id k = record { hosts = map.insert s.hosts id (record { kind = k; rows = []; opened = None }); begun = Some id }

-- A row goes to the host begun last, if that is a tabled one.
abbrev pub kind_wrong : HostKind → Option Trouble
kind_wrong kind.Tabled = None
kind_wrong kind.Empty = Some NoSuchTable

abbrev pub table_wrong : Option Known → Option Trouble
table_wrong None = Some NoHostBegun
table_wrong (Some k) = kind_wrong k.kind

-- the state where what is known of one host is changed; of a host that is not declared nothing is
abbrev pub with_change : State → ℕ → (Known → Known) → State
with_change s id f = record s { hosts = unwrap_or (option_map (λ k. map.insert s.hosts id (f k)) (map.get s.hosts id)) s.hosts }

abbrev pub with_row_of : State → Option ℕ → Row → State
with_row_of s None row = s
with_row_of s (Some id) row = with_change s id (λ k. record k { rows = k.rows ++ row ∷ [] })

abbrev pub with_row : State → Row → State
with_row s row = with_row_of s s.begun row

-- what a host of that kind over these rows means
abbrev pub meaning_of : HostKind → List Row → Meaning
meaning_of kind.Tabled rs = tabled rs
meaning_of kind.Empty rs = empty_host

-- a host of that kind over these rows, or a refusal where the supertrait law fails at some trait
abbrev pub Fresh : HostKind → List Row → Result AnyHost Refusal → Type 0
Fresh k rs (Ok h) = any_meaning h ≡ meaning_of k rs
Fresh k rs (Err e) = (k ≡ kind.Tabled) × (e ≡ UnlawfulSupertraits) × SupertraitLawFails (tabled rs)

-- a host of that kind over these rows comes in the place of the one opened before, which stays where that is refused or memory is wanting
abbrev pub Reopens : HostKind → List Row → Option AnyHost → Result (Result (Unit {0}) Refusal) Trouble → Option AnyHost → Type 0
Reopens k rs o (Ok (Ok u)) o' = (h : AnyHost) × Fresh k rs (Ok h) × (o' ≡ Some h)
Reopens k rs o (Ok (Err e)) o' = Fresh k rs (Err e) × (o' ≡ o)
Reopens k rs o (Err t) o' = (t ≡ Memory) × (o' ≡ o)

-- only a host that was declared can be opened
abbrev pub open_wrong : State → ℕ → Option Trouble
open_wrong s id = if is_some (kind_of s id) then None else Some NotDeclared

abbrev pub with_open : State → ℕ → AnyHost → State
with_open s id h = with_change s id (λ k. record k { opened = Some h })

-- Opening makes a host anew from the tables as they stand, in place of the one before; refused, it leaves all as it was.
abbrev pub Opens : State → ℕ → Result (Result (Unit {0}) Refusal) Trouble → State → Type 0
Opens s id (Ok (Ok u)) s' = (k : HostKind) × (h : AnyHost) × (kind_of s id ≡ Some k) × Fresh k (rows_of s id) (Ok h) × (s' ≡ with_open s id h)
Opens s id (Ok (Err e)) s' = (k : HostKind) × (kind_of s id ≡ Some k) × Fresh k (rows_of s id) (Err e) × (s' ≡ s)
Opens s id (Err t) s' = Told {X = Unit {0}} (open_wrong s id) (Err t) × (s' ≡ s)

-- A question is answered by the host that was opened last.
abbrev pub asked_of : Option HostKind → Option AnyHost → Question → Result Answer Trouble
asked_of None o q = Err NotDeclared
asked_of (Some k) None q = Err NotOpen
asked_of (Some k) (Some h) q = Ok (answer (any_meaning h) q)
