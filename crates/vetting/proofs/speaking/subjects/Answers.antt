use Rattle.std.proofs.Common.{nat_eq, refl, rules}
use Rattle.std.proofs.lemmas.Iterator.{YieldsList-from_slice}
use Rattle.std.proofs.lemmas.Iterator.Adapters.{YieldsList-from_flat_map}
use Rattle.vetting.specs.Subjects.{mentioned}
use Rattle.vetting.proofs.Equals.{exact_numbers}
use Rattle.vetting.proofs.Giving.{gathered, two_options}
use Rattle.vetting.proofs.speaking.subjects.Goals as goal

pub returns : goal.returns
returns c =
    let rows = c.args.rows.now in
    let said = mentioned c.args.subject in
    let new = c.flat_map.ensures in
    let both = gathered nat_eq nat_eq (λ x y. refl) exact_numbers said rows c.firsts.result (YieldsList-from_flat_map _ _ _ (λ y. y) said _ (λ x u f k. (search rules, λ j e. two_options u j (said x.now) e (search rules) (search rules) (search rules))) (YieldsList-from_slice rows cc) new.closure new.front new.back new.done) refl c.firsts.ensures in
    record { order = both.0; spoken = both.1 }
