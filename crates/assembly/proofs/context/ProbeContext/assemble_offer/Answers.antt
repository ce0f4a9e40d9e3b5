use Rattle.assembly.specs.Growth.{offer_of}
use Rattle.assembly.proofs.Offering.{grown_by_trait, not_impl}
use Rattle.assembly.proofs.context.ProbeContext.assemble_offer.Goals as goal

pub returns-in_default : goal.returns-in_default
returns-in_default g c offered h =
    grown_by_trait _ offered (offer_of c.args.kind c.args.container) (not_impl c.args.kind c.in_default.not-InherentImplCandidate) _ h c.assemble_item.result _
    (c.assemble_item.ensures _ h.candidates)
