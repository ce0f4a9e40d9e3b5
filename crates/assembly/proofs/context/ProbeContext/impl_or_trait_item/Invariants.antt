use Rattle.std.proofs.Common.{◌≡◌, ◌-◌}
use Rattle.host.specs.Meaning.{listed_from}
use Rattle.method_resolution.specs.Assembly.{first_named, offered_place}
use Rattle.assembly.specs.Contexts.{question}
use Rattle.assembly.proofs.context.ProbeContext.impl_or_trait_item.Given as goal

-- the items from this place on decide
abbrev pub invariant-loop-place : goal.invariant-loop-place
invariant-loop-place g l =
    let q = question g.H.Host.meaning l.self in
    offered_place q l.kind l.container ≡ first_named q.name q.mode l.place (listed_from (q.meaning.item l.kind l.container) l.place (64 - l.place))
