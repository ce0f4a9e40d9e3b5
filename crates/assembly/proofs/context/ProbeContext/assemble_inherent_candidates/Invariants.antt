use Rattle.std.specs.List.{flat_map}
use Rattle.std.proofs.Common.{take}
use Rattle.method_resolution.specs.Types.{Ok}
use Rattle.method_resolution.specs.Offers.{step_offers}
use Rattle.assembly.specs.Contexts.{question}
use Rattle.assembly.specs.Growth.{Grows}
use Rattle.assembly.proofs.context.ProbeContext.assemble_inherent_candidates.Given as goal

-- the lists have grown by what the steps before this one offer
abbrev pub invariant-loop-step : goal.invariant-loop-step
invariant-loop-step g l =
    let q = question g.H.Host.meaning l.self in
    Grows q l.initial.lists (flat_map (step_offers q.meaning) (take l.step-index q.steps)) (Ok tt) l.lists
