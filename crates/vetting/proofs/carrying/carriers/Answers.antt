use Rattle.std.proofs.Common.{rules}
use Rattle.std.proofs.lemmas.Iterator.{items_from_collect, YieldsList-from_slice}
use Rattle.std.proofs.lemmas.Iterator.Adapters.{YieldsList-from_flat_map}
use Rattle.vetting.specs.Carriers.{carried}
use Rattle.vetting.proofs.Called.{carried_gives}
use Rattle.vetting.proofs.carrying.carriers.Goals as goal

pub returns : goal.returns
returns g c =
    let m = g.H.Host.meaning c.args.host.now in
    let new = c.flat_map.ensures in
    items_from_collect c.collect.result c.collect.ensures.ran (YieldsList-from_flat_map _ _ _ (λ y. y) (carried m c.args.name) _ (λ x u f k. (search rules, λ j e. carried_gives _ _ m x.now c.args.name u j e (λ p r h a. (search rules, search rules)) (λ i r h a. (search rules, search rules)) (search rules))) (YieldsList-from_slice c.args.containers.now cc) new.closure new.front new.back new.done)
