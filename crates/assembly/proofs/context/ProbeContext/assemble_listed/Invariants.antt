use Rattle.std.specs.Prelude.{ℕ, Option}
use Rattle.assembly.specs.Contexts.{question}
use Rattle.assembly.specs.Listing.{AnswersAs}
use Rattle.assembly.proofs.Fronts.{OfferedUpTo}
use Rattle.assembly.proofs.context.ProbeContext.assemble_listed.Given as goal

-- the containers before this place are offered
abbrev pub invariant-loop-place : goal.invariant-loop-place
invariant-loop-place g l =
    (f : ℕ → Option ℕ) → AnswersAs (goal.F-post g l.offered_at) f → OfferedUpTo (question g.H.Host.meaning l.self) f l.kind l.place l.initial.lists l.lists
