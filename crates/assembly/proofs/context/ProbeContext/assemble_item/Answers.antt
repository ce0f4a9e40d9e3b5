use Rattle.assembly.specs.Growth.{offer_of}
use Rattle.assembly.proofs.Growing.{added_nothing, added_one, made}
use Rattle.assembly.proofs.context.ProbeContext.assemble_item.Goals as goal

pub returns-in_default : goal.returns-in_default
returns-in_default g c os h = added_nothing _ os (offer_of c.args.kind c.args.container) _ _ c.from-holder.ensures c.in_default.ensures h

pub returns : goal.returns
returns g c os h =
    added_one _ os (offer_of c.args.kind c.args.container) _ _ _ c.push_candidate.result (made _ (offer_of c.args.kind c.args.container) _ _ c.from-holder.ensures c.in-Some.ensures) c.push_candidate.ensures h
