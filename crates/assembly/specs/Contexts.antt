-- The question that a context holds.
use Rattle.host.specs.Meaning.{Meaning}
use Rattle.method_resolution.specs.Questions.{Question}
use Rattle.assembly.specs.declared.context.ProbeContext.{ProbeContext}

abbrev pub question : {H : Type 0} → (H → Meaning) → ProbeContext H → Question
question meaning ctx = record { meaning = meaning ctx.host.now; settings = ctx.settings; steps = ctx.steps.now; name = ctx.name; mode = ctx.mode }
