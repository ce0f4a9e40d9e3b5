-- One element more on a roll.
use Rattle.std.proofs.Common.{◌≡◌, ◌+◌, ◌≤◌, List, [], ◌∷◌, ◌++◌, length, drop, sym, ap, ◌∙◌, append_assoc, arith, length-append, length-drop}
use Rattle.std.proofs.lemmas.List.{drop-drop}
use Rattle.roll.specs.Rolls.{contents, beyond, Pushed}
use Rattle.roll.specs.declared.shape.Full.{Full}
use Rattle.method_resolution.specs.Types.{Result, Ok, Err}
use Rattle.roll.specs.declared.shape.Roll.{Roll}
use Rattle.probe.specs.Writing.{Wrote, Writes}

module _ {X : Type 0} (before mid : Roll X) (xs : List X) (x : X) (after : Roll X) where
  wrote_more : (r : Result (Unit {0}) Full) → Writes before xs mid → Pushed mid x r after → length (xs ++ (x ∷ [])) ≤ length (beyond before) → Wrote before (xs ++ (x ∷ [])) after
  wrote_more (Ok u) w p enough =
      let size : length (xs ++ (x ∷ [])) ≡ length xs + 1 = length-append xs (x ∷ []) in
      let so_far = w.wrote (omega arith) in
      record {
        on_it = p.1 ∙ ap (λ l. l ++ (x ∷ [])) so_far.on_it ∙ append_assoc (contents before) xs (x ∷ []);
        behind = p.2 ∙ ap (drop 1) so_far.behind ∙ drop-drop 1 (length xs) (beyond before) ∙ ap (λ n. drop n (beyond before)) (sym size);
      }
  wrote_more (Err e) w p enough =
      let size : length (xs ++ (x ∷ [])) ≡ length xs + 1 = length-append xs (x ∷ []) in
      let so_far = w.wrote (omega arith) in
      let left = ap length so_far.behind ∙ length-drop (length xs) (beyond before) in
      let none = p.0 in
      absurd (omega arith)

  pub writes_more : (r : Result (Unit {0}) Full) → Writes before xs mid → after.items.ghost_name ≡ mid.items.ghost_name → Pushed mid x r after → Writes before (xs ++ (x ∷ [])) after
  writes_more r w lent p = record { lent = lent ∙ w.lent; wrote = wrote_more r w p }
