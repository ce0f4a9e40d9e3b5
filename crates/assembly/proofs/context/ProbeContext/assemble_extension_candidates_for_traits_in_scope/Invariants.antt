use Rattle.std.proofs.Common.{take}
use Rattle.scope.specs.Entries.{traits_of}
use Rattle.assembly.specs.Assembled.{StepsHold, ScopeHolds}
use Rattle.assembly.specs.Contexts.{question}
use Rattle.assembly.proofs.context.ProbeContext.assemble_extension_candidates_for_traits_in_scope.Given as goal

-- the lists hold what the traits before this one offer
abbrev pub invariant-loop-entry : goal.invariant-loop-entry
invariant-loop-entry g l =
    let q = question g.H.Host.meaning l.self in
    StepsHold q l.initial.lists → ScopeHolds q (traits_of (take l.entry-index l.entry-items)) l.lists
