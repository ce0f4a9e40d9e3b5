use Rattle.std.proofs.Common.{◌≡◌, ℕ, ◌<◌, length, get_or, MatchOption, Some, None, rules}
use Rattle.rows.specs.Tables.{tabled}
use Rattle.rows.specs.Breaches.{entry_breach}
use Rattle.rows.proofs.Breaking.{first_found}
use Rattle.rows.proofs.laws.Supers.breach_below.Goals as goal

pub returns : goal.returns
returns c =
    let f = entry_breach (tabled c.args.self.now.rows.now) c.args.self.now.tr c.args.self.now.list.now in
    let xs = c.args.self.now.list.now in
    let found : MatchOption c.find_map.result ((k : ℕ) → k < length xs → f (get_or xs k 0) ≡ None) (λ y. (i : ℕ) × (i < length xs) × (f (get_or xs i 0) ≡ Some y) × ((k : ℕ) → k < i → f (get_or xs k 0) ≡ None)) = search rules in
    first_found f xs c.find_map.result found
