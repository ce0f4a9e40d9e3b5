-- The slots of a list: what one more row does to them, and how the list is read off them.
use Rattle.std.proofs.Common.{◌≡◌, ℕ, zero, suc, ◌+◌, ◌^◌, ◌<◌, ◌≤◌, true, cond, eqb, ltb, List, [], ◌∷◌, ◌++◌, length, get_or, take, replicate, Some, None, Option, sym, refl, ap, ◌∙◌, subst, arith}
use Rattle.std.specs.Option.{option_or}
use Rattle.std.specs.List.{slice_get}
use Rattle.std.proofs.lemmas.Option.{slice_get_past}
use Rattle.std.proofs.lemmas.List.{get_or-replicate, take_all}
use Rattle.std.proofs.lemmas.List.Folds.{find-append}
use Rattle.std.proofs.lemmas.Bool.{and_parts, and_from, and_left, ne_eqb, lt-ltb}
use Rattle.host.specs.Meaning.{listed, listed_from, joined}
use Rattle.host.specs.Questions.{askable, small}
use Rattle.rows.proofs.Fronts.{fronts, listed-fronts}
use Rattle.rows.specs.declared.lists.Listing.{Listing}
use Rattle.rows.specs.declared.lists.Listing.TheVariants as list
use Rattle.rows.specs.declared.rows.Row.{Row}
use Rattle.rows.specs.declared.rows.Key.{Key}
use Rattle.rows.specs.Rows.{key_of, fits, first_row}
use Rattle.rows.specs.Lists.{at, itself, default_rows, all_rows, row_at, entries, matched, Noted, Gathered}

-- one row more at the end
pub first_row-push : (rs : List Row) (r : Row) (k : Key) → first_row (rs ++ r ∷ []) k ≡ option_or (first_row rs k) (matched r k)
first_row-push rs r k = find-append (λ x. fits x k) rs (r ∷ [])

pub gathered_none : (l : Listing) → Gathered l [] (replicate 64 None)
gathered_none l = record { size = refl; firsts = λ p h. get_or-replicate 64 p None None h }

pub gathered_more : (l : Listing) (rs : List Row) (r : Row) (before after : List (Option Row)) → Gathered l rs before → Noted l r before after → Gathered l (rs ++ r ∷ []) after
gathered_more l rs r before after g n = record {
  size = n.size ∙ g.size;
  firsts = λ p h. n.slots p h ∙ ap (λ o. option_or o (matched r (key_of (at l p)))) (g.firsts p h) ∙ sym (first_row-push rs r (key_of (at l p)));
}

asked_at : (t p : ℕ) → small (t ∷ 0 ∷ []) ≡ true → p < 64 → small (t ∷ p ∷ []) ≡ true
asked_at t p e h = and_from (ltb t (2 ^ 32)) (small (p ∷ [])) (and_parts (ltb t (2 ^ 32)) true e).0 (and_from (ltb p (2 ^ 32)) true (lt-ltb p (2 ^ 32) (omega arith)) refl)

-- the place of a list's question has 32 bits
pub askable_at : (l : Listing) (p : ℕ) → askable (at l 0) ≡ true → p < 64 → askable (at l p) ≡ true
askable_at (list.Own t) p e h = asked_at t p e h
askable_at (list.Stray t) p e h = asked_at t p e h
askable_at (list.Items k c) p e h = asked_at c p e h
askable_at (list.Bounds t) p e h = asked_at t p e h
askable_at (list.Supers t) p e h = asked_at t p e h

pub entries_are : (l : Listing) (rs : List Row) (os : List (Option Row)) → askable (at l 0) ≡ true → Gathered l (all_rows rs l) os → entries rs l ≡ fronts os
entries_are l rs os a g =
    let each : (k : ℕ) → k < length os → get_or os k None ≡ row_at rs l (0 + k) = λ k h.
    let low : k < 64 = omega (arith, g.size) in
    g.firsts k low ∙ sym (ap (λ b. first_row (all_rows (cond b rs []) l) (key_of (at l k))) (askable_at l k a low)) ∙ ap (row_at rs l) (omega arith) in
    ap (listed_from (row_at rs l) 0) (sym g.size) ∙ listed-fronts (row_at rs l) os 0 each

pub gathered_all : (l : Listing) (rs : List Row) (i : ℕ) (os : List (Option Row)) → length rs ≤ i → Gathered l (take i rs) os → Gathered l rs os
gathered_all l rs i os h g = subst (λ xs. Gathered l xs os) (take_all i rs h) g

pub gathered_default : (l : Listing) (t : ℕ) (r : Row) (rs : List Row) (before after : List (Option Row)) → l ≡ list.Supers t → r ≡ itself t → Gathered l rs before → Noted (list.Supers t) r before after → Gathered l (all_rows rs l) after
gathered_default l t r rs before after e i g n =
    let here : Noted l (itself t) before after = subst (λ x. Noted l x before after) i (subst (λ k. Noted k r before after) (sym e) n) in
    subst (λ ds. Gathered l (rs ++ ds) after) (sym (ap default_rows e)) (gathered_more l rs (itself t) before after g here)

-- a list question's list has at most 64 entries
pub length-listed : {X : Type 0} (f : ℕ → Option X) (p n : ℕ) → length (listed_from f p n) ≤ n
unfolding listed_from
length-listed f p zero = omega arith
length-listed {X} f p (suc n) = step (f p) (listed_from f (p + 1) n) (length-listed f (p + 1) n)
  where
    step : (o : Option X) (xs : List X) → length xs ≤ n → length (joined o xs) ≤ suc n
    step None xs h = omega arith
    step (Some x) xs h = omega arith

-- and none at a place past those
pub entry_past : {X : Type 0} (f : ℕ → Option X) (p : ℕ) → 64 ≤ p → slice_get (listed f) p ≡ None
entry_past f p h = slice_get_past (listed f) p (omega (arith, length-listed f 0 64))

option_or_last : {X : Type 0} (o : Option X) → option_or o None ≡ o
option_or_last None = refl
option_or_last (Some x) = refl

unlike : (r : Row) (k : Key) → (r.key.question ≡ k.question → ⊥) → matched r k ≡ None
unlike r k n = ap (λ b. cond b (Some r) None) (and_left (eqb r.key.question k.question) _ (ne_eqb r.key.question k.question n))

other_question : (l : Listing) (r : Row) (p : ℕ) → (r.key.question ≡ (key_of (at l 0)).question → ⊥) → matched r (key_of (at l p)) ≡ None
other_question (list.Own t) r p n = unlike r (key_of (at (list.Own t) p)) n
other_question (list.Stray t) r p n = unlike r (key_of (at (list.Stray t) p)) n
other_question (list.Items k c) r p n = unlike r (key_of (at (list.Items k c) p)) n
other_question (list.Bounds t) r p n = unlike r (key_of (at (list.Bounds t) p)) n
other_question (list.Supers t) r p n = unlike r (key_of (at (list.Supers t) p)) n

-- a row of another question changes no slot
pub passed_over : (l : Listing) (r : Row) (os : List (Option Row)) → (r.key.question ≡ (key_of (at l 0)).question → ⊥) → Noted l r os os
passed_over l r os n = record { size = refl; slots = λ p h. sym (ap (option_or (get_or os p None)) (other_question l r p n) ∙ option_or_last (get_or os p None)) }
