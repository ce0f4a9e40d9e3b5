use Rattle.std.proofs.Common.{◌≡◌, ℕ, ◌<◌, eqb, true, false, length, get_or, MatchOption, option_map, ◌∙◌, rules}
use Rattle.roll.specs.Equality.{on}
use Rattle.rows.specs.declared.laws.Breach.TheVariants.{Missing}
use Rattle.rows.proofs.Breaking.{missing_found}
use Rattle.rows.proofs.laws.Supers.missing_above.Goals as goal

pub returns : goal.returns
returns c =
    let supers = c.args.self.now.list.now in
    let above = c.args.entry.now.list.now in
    let u = c.args.entry.now.tr in
    let found : MatchOption c.find-found.result ((k : ℕ) → k < length above → on eqb supers (get_or above k 0) ≡ true) (λ v. (i : ℕ) × (i < length above) × (get_or above i 0 ≡ v) × (on eqb supers v ≡ false) × ((k : ℕ) → k < i → on eqb supers (get_or above k 0) ≡ true)) = search rules in
    let told : c.map.result ≡ option_map (Missing u) c.find-found.result = search rules in
    told ∙ missing_found supers u above c.find-found.result found
