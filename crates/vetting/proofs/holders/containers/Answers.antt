use Rattle.std.proofs.Common.{rules}
use Rattle.std.proofs.lemmas.Iterator.{YieldsList-from_slice}
use Rattle.std.proofs.lemmas.Iterator.Consumers.{YieldsList-from_filter_map}
use Rattle.vetting.specs.Containers.{container_in, same_container, held}
use Rattle.vetting.proofs.Equals.{exact_containers}
use Rattle.vetting.proofs.Giving.{gathered, some_as_list}
use Rattle.vetting.proofs.holders.containers.Goals as goal

pub returns : goal.returns
returns c =
    let rows = c.args.rows.now in
    let both = gathered _ same_container (λ x y. search rules) exact_containers held rows c.firsts.result (YieldsList-from_filter_map _ container_in (YieldsList-from_slice rows cc) c.filter_map.ensures.closure (λ x r f k. (search rules, search rules))) (some_as_list container_in rows) c.firsts.ensures in
    record { order = both.0; spoken = both.1 }
