use Rattle.std.proofs.Common.{rules}
use Rattle.std.proofs.lemmas.Iterator.{items_from_collect}
use Rattle.vetting.specs.Lists.{asked_of}
use Rattle.vetting.proofs.Asking.{asked_gives}
use Rattle.vetting.proofs.listing.entries.Goals as goal

pub returns : goal.returns
returns g c =
    items_from_collect c.collect.result c.collect.ensures.ran (asked_gives _ (asked_of (g.H.Host.meaning c.args.host.now) c.args.list) _ (λ p r k a. (search rules, search rules)) _ 64 c.map_while.ensures.closure c.map_while.ensures.source)
