-- A table keeps the laws where the supertrait law holds at each trait that a row speaks of.
use Rattle.std.proofs.Common.{◌≡◌, ℕ, zero, suc, ◌+◌, ◌^◌, ◌<◌, ◌≤◌, Bool, true, false, MatchBool, not, cond, ◌&&◌, eqb, ltb, ◌⊎◌, List, [], ◌∷◌, ◌++◌, map, length, get_or, is_some, Some, None, Option, sym, refl, ap, ◌∙◌, subst, inl, inr, arith}
use Rattle.std.specs.Option.{option_or}
use Rattle.std.specs.List.{AllWithin, HoldsAt, slice_get}
use Rattle.std.proofs.lemmas.Option.{none-some, slice_get_past}
use Rattle.std.proofs.lemmas.Bool.{cases_Bool, cases_lt, eq-eqb, eqb-true, ne_eqb, le-ltb, and_parts, and_from, and_left, and_right, both_ways}
use Rattle.host.specs.Meaning.{supers_of, listed, listed_from, joined}
use Rattle.host.specs.Questions.{answer, askable, small}
use Rattle.host.specs.Law.{SupersLawful, SupertraitLaw, Lawful, empty_host}
use Rattle.host.specs.declared.questions.Answer.TheVariants as reply
use Rattle.host.specs.declared.questions.Question.{Question}
use Rattle.host.specs.declared.questions.Question.TheVariants as asks
use Rattle.rows.specs.declared.lists.Listing.{Listing}
use Rattle.rows.specs.declared.lists.Listing.TheVariants as list
use Rattle.rows.specs.declared.rows.Key.{Key}
use Rattle.rows.specs.declared.rows.Row.{Row}
use Rattle.rows.specs.Rows.{key_of, fits, first_row, asked_rows, row_for}
use Rattle.rows.specs.Lists.{at, itself, default_rows, row_at, entries, matched}
use Rattle.rows.specs.Tables.{tabled, form_in, number_in, item_of, item_in, mark_in, marks_in}
use Rattle.rows.proofs.Answering.{no_row}
use Rattle.rows.proofs.Gathering.{first_row-push, length-listed, askable_at}
use Rattle.rows.proofs.ListFacts.{list_ends, listed_is}
use Rattle.rows.specs.Breaches.{Tells, breach_of, Broken, Unbroken}
use Rattle.rows.specs.declared.laws.Breach.{Breach}
use Rattle.rows.proofs.Breaking.{alone_lawful, breach_tells, breach_breaks, breach_none}

-- a trait's supers are the answers of its list's rows
pub supers_are : (rs : List Row) (t : ℕ) → supers_of (tabled rs) t ≡ map (λ r. r.r1) (entries rs (list.Supers t))
supers_are rs t = listed_is (λ r. r.r1) (entries rs (list.Supers t)) (length-listed (row_at rs (list.Supers t)) 0 64)

listed_first : {X : Type 0} (f : ℕ → Option X) → slice_get (listed f) 0 ≡ f 0
unfolding listed_from
listed_first {X} f = step (f 0) (listed_from f (0 + 1) 63)
  where
    step : (o : Option X) (xs : List X) → slice_get (joined o xs) 0 ≡ o
    step None xs = refl
    step (Some x) xs = refl

itself_first : (t : ℕ) → matched (itself t) (key_of (asks.Supers t 0)) ≡ Some (itself t)
itself_first t = ap (λ b. cond (b && true) (Some (itself t)) None) (eq-eqb t t refl)

itself_later : (t : ℕ) → matched (itself t) (key_of (asks.Supers t 1)) ≡ None
itself_later t = ap (λ b. cond b (Some (itself t)) None) (and_right (eqb t t) false refl)

-- a trait's supers are never empty
pub supers_begin : (rs : List Row) (t : ℕ) → (x : ℕ) × ((tabled rs).supers t 0 ≡ Some x)
supers_begin rs t = step (row_for rs (asks.Supers t 0)) refl
  where
    first : (tabled rs).supers t 0 ≡ number_in (option_or (row_for rs (asks.Supers t 0)) (Some (itself t)))
    first = ap number_in (listed_first (row_at rs (list.Supers t)) ∙ first_row-push (asked_rows rs (asks.Supers t 0)) (itself t) (key_of (asks.Supers t 0)) ∙ ap (option_or (row_for rs (asks.Supers t 0))) (itself_first t))

    step : (o : Option Row) → row_for rs (asks.Supers t 0) ≡ o → (x : ℕ) × ((tabled rs).supers t 0 ≡ Some x)
    step (Some r) e = (r.r1, first ∙ ap (λ o. number_in (option_or o (Some (itself t)))) e)
    step None e = (t, first ∙ ap (λ o. number_in (option_or o (Some (itself t)))) e)

-- a trait with no row at place 0 or 1
abbrev Unspoken : List Row → ℕ → Type 0
Unspoken rs t = (row_for rs (asks.Supers t 0) ≡ None) × (row_for rs (asks.Supers t 1) ≡ None)

sole_entry : {X : Type 0} (f : ℕ → Option X) (x : X) → f 0 ≡ Some x → f 1 ≡ None → listed f ≡ x ∷ []
unfolding listed_from
sole_entry f x e n = ap (λ o. joined o (listed_from f (0 + 1) 63)) e ∙ ap (λ o. x ∷ joined o (listed_from f (0 + 1 + 1) 62)) n

unspoken_entries : (rs : List Row) (t : ℕ) → Unspoken rs t → entries rs (list.Supers t) ≡ itself t ∷ []
unspoken_entries rs t u = sole_entry (row_at rs (list.Supers t)) (itself t)
    (first_row-push (asked_rows rs (asks.Supers t 0)) (itself t) (key_of (asks.Supers t 0)) ∙ ap (λ o. option_or o (matched (itself t) (key_of (asks.Supers t 0)))) u.0 ∙ itself_first t)
    (first_row-push (asked_rows rs (asks.Supers t 1)) (itself t) (key_of (asks.Supers t 1)) ∙ ap (λ o. option_or o (matched (itself t) (key_of (asks.Supers t 1)))) u.1 ∙ itself_later t)

unspoken_lawful : (rs : List Row) (t : ℕ) → Unspoken rs t → SupersLawful (tabled rs) t
unspoken_lawful rs t u =
    let are = unspoken_entries rs t u in
    alone_lawful (tabled rs) t (ap (λ es. number_in (slice_get es 0)) are) (supers_are rs t ∙ ap (map (λ r. r.r1)) are)

-- what holds of all rows holds of the one that answers, and that one has the key
found_row : (P : Row → Type 0) (rs : List Row) (k : Key) (r : Row) → AllWithin P rs 0 (length rs) → first_row rs k ≡ Some r → P r × (fits r k ≡ true)
found_row P [] k r a e = absurd (none-some _ e)
found_row P (x ∷ rs) k r a e = step (fits x k) refl (found_row P rs k r (λ i d l h. a (suc i) d (omega arith) (omega arith))) e
  where
    step : (b : Bool) → fits x k ≡ b → (first_row rs k ≡ Some r → P r × (fits r k ≡ true)) → cond b (Some x) (first_row rs k) ≡ Some r → P r × (fits r k ≡ true)
    step true f more e = let is : x ≡ r = cc in subst (λ y. P y × (fits y k ≡ true)) is (a 0 no_row (omega arith) (omega arith), f)
    step false f more e = more e

-- a row at place 0 or 1 is one at which the law was looked at
spoken : (rs : List Row) (t p : ℕ) (r : Row) → AllWithin (Unbroken (tabled rs)) rs 0 (length rs) → p ≤ 1 → row_for rs (asks.Supers t p) ≡ Some r → SupersLawful (tabled rs) t
spoken rs t p r a l e = step (askable (asks.Supers t p)) e
  where
    step : (b : Bool) → first_row (cond b rs []) (key_of (asks.Supers t p)) ≡ Some r → SupersLawful (tabled rs) t
    step false e = absurd (none-some _ e)
    step true e =
        let found = found_row (Unbroken (tabled rs)) rs (key_of (asks.Supers t p)) r a e in
        let question = and_parts (eqb r.key.question 6) _ found.1 in
        let trait = and_parts (eqb r.key.a1 t) _ question.1 in
        let place = eqb-true r.key.a2 p (and_parts (eqb r.key.a2 p) _ trait.1).0 in
        subst (SupersLawful (tabled rs)) (eqb-true r.key.a1 t trait.0) (found.0 (eqb-true r.key.question 6 question.0, omega arith))

lawful_from_rows : (rs : List Row) → AllWithin (Unbroken (tabled rs)) rs 0 (length rs) → (t : ℕ) → SupersLawful (tabled rs) t
lawful_from_rows rs a t = step (row_for rs (asks.Supers t 0)) refl (row_for rs (asks.Supers t 1)) refl
  where
    step : (o : Option Row) → row_for rs (asks.Supers t 0) ≡ o → (p : Option Row) → row_for rs (asks.Supers t 1) ≡ p → SupersLawful (tabled rs) t
    step (Some r) e p f = spoken rs t 0 r a (omega arith) e
    step None e (Some r) f = spoken rs t 1 r a (omega arith) f
    step None e None f = unspoken_lawful rs t (e, f)

-- the law holds everywhere if it breaks at no row
pub lawful_or_broken : (rs : List Row) (b : Bool) → MatchBool b ((k : ℕ) × (k < length rs) × HoldsAt (Broken (tabled rs)) rs k) (AllWithin (Unbroken (tabled rs)) rs 0 (length rs)) → MatchBool (not b) (SupertraitLaw (tabled rs)) ((t : ℕ) × (t < 2 ^ 32) × (SupersLawful (tabled rs) t → ⊥))
lawful_or_broken rs true h = let broken = h.2 no_row in ((get_or rs h.0 no_row).key.a1, broken.0, broken.1)
lawful_or_broken rs false h = λ t l. lawful_from_rows rs h t

-- an answer that is the first breach tells what it should
pub told : (rs : List Row) (t : ℕ) (r : Option Breach) → r ≡ breach_of (tabled rs) t → Tells (tabled rs) t r
told rs t r e = let first = supers_begin rs t in subst (Tells (tabled rs) t) (sym e) (breach_tells (tabled rs) t first.0 first.1)

-- where the law holds no breach is found, and the other way round
pub unbroken : (rs : List Row) (t : ℕ) → SupersLawful (tabled rs) t → is_some (breach_of (tabled rs) t) ≡ false
unbroken rs t l = step (breach_of (tabled rs) t) (let first = supers_begin rs t in breach_tells (tabled rs) t first.0 first.1)
  where
    step : (r : Option Breach) → Tells (tabled rs) t r → is_some r ≡ false
    step None h = refl
    step (Some b) h = absurd (breach_breaks (tabled rs) t (Some b) h refl l)

lawful_at : (rs : List Row) (t : ℕ) → is_some (breach_of (tabled rs) t) ≡ false → SupersLawful (tabled rs) t
lawful_at rs t e = let first = supers_begin rs t in breach_none (tabled rs) t (breach_of (tabled rs) t) (breach_tells (tabled rs) t first.0 first.1) e

-- a list whose own number has too many bits, or whose place lies past every list
askable_first : (l : Listing) (p : ℕ) → askable (at l p) ≡ false → (askable (at l 0) ≡ false) ⊎ (64 ≤ p)
askable_first l p e = step (cases_lt p 64) (cases_Bool (askable (at l 0)))
  where
    step : (p < 64) ⊎ (64 ≤ p) → (askable (at l 0) ≡ true) ⊎ (askable (at l 0) ≡ false) → (askable (at l 0) ≡ false) ⊎ (64 ≤ p)
    step (inr h) c = inr h
    step (inl h) (inr c) = inl c
    step (inl h) (inl c) = absurd (both_ways (askable (at l p)) e (askable_at l p c h))

no_entries : {X : Type 0} (f : ℕ → Option X) → f 0 ≡ None → listed f ≡ []
unfolding listed_from
no_entries f e = ap (λ o. joined o (listed_from f (0 + 1) 63)) e

-- a list without defaults that nobody can ask for
unasked : (rs : List Row) (l : Listing) (p : ℕ) → default_rows l ≡ [] → askable (at l p) ≡ false → slice_get (entries rs l) p ≡ None
unasked rs l p d e = step (askable_first l p e)
  where
    step : (askable (at l 0) ≡ false) ⊎ (64 ≤ p) → slice_get (entries rs l) p ≡ None
    step (inr h) = slice_get_past (entries rs l) p (let k = length-listed (row_at rs l) 0 64 in omega arith)
    step (inl h) = ap (λ es. slice_get es p) (no_entries (row_at rs l) (ap (λ b. first_row (cond b rs [] ++ default_rows l) (key_of (at l 0))) h ∙ ap (λ ds. first_row ds (key_of (at l 0))) d))

past_first : (t p : ℕ) → 64 ≤ p → cond (eqb p 0) (Some t) None ≡ None
past_first t p h = ap (λ b. cond b (Some t) None) (ne_eqb p 0 (λ e. omega arith))

alone_at : (t p : ℕ) → number_in (slice_get (itself t ∷ []) p) ≡ cond (eqb p 0) (Some t) None
alone_at t zero = refl
alone_at t (suc p) = sym (ap (λ b. cond b (Some t) None) (ne_eqb (suc p) 0 (λ e. omega arith)))

too_large : (t p : ℕ) → small (t ∷ 0 ∷ []) ≡ false → small (t ∷ p ∷ []) ≡ false
too_large t p e = step (cases_Bool (ltb t (2 ^ 32)))
  where
    step : (ltb t (2 ^ 32) ≡ true) ⊎ (ltb t (2 ^ 32) ≡ false) → small (t ∷ p ∷ []) ≡ false
    step (inr h) = and_left (ltb t (2 ^ 32)) (small (p ∷ [])) h
    step (inl h) = absurd (both_ways (small (t ∷ 0 ∷ [])) e (and_from (ltb t (2 ^ 32)) true h refl))

large_unspoken : (rs : List Row) (t : ℕ) → askable (asks.Supers t 0) ≡ false → Unspoken rs t
large_unspoken rs t e = (none 0, none 1)
  where
    none : (p : ℕ) → row_for rs (asks.Supers t p) ≡ None
    none p = ap (λ b. first_row (cond b rs []) (key_of (asks.Supers t p))) (too_large t p e)

unasked_supers : (rs : List Row) (t p : ℕ) → askable (asks.Supers t p) ≡ false → number_in (slice_get (entries rs (list.Supers t)) p) ≡ cond (eqb p 0) (Some t) None
unasked_supers rs t p e = step (askable_first (list.Supers t) p e)
  where
    step : (askable (asks.Supers t 0) ≡ false) ⊎ (64 ≤ p) → number_in (slice_get (entries rs (list.Supers t)) p) ≡ cond (eqb p 0) (Some t) None
    step (inr h) = ap number_in (slice_get_past (entries rs (list.Supers t)) p (let k = length-listed (row_at rs (list.Supers t)) 0 64 in omega arith)) ∙ sym (past_first t p h)
    step (inl h) = ap (λ es. number_in (slice_get es p)) (unspoken_entries rs t (large_unspoken rs t h)) ∙ alone_at t p

beyond : (rs : List Row) (q : Question) → askable q ≡ false → answer (tabled rs) q ≡ answer empty_host q
beyond rs (asks.Form t) e = ap (λ b. reply.Form (form_in (first_row (cond b rs []) (key_of (asks.Form t))))) e
beyond rs (asks.Own t p) e = ap (λ o. reply.Number (number_in o)) (unasked rs (list.Own t) p refl e)
beyond rs (asks.Stray t p) e = ap (λ o. reply.Number (number_in o)) (unasked rs (list.Stray t) p refl e)
beyond rs (asks.Item a) e = ap (λ o. reply.Item (item_in o)) (unasked rs (list.Items a.kind a.container) a.place refl e)
beyond rs (asks.Bound t p) e = ap (λ o. reply.Number (number_in o)) (unasked rs (list.Bounds t) p refl e)
beyond rs (asks.Supers t p) e = ap reply.Number (unasked_supers rs t p e)
beyond rs (asks.Visible a) e = ap (λ b. reply.Mark (mark_in (first_row (cond b rs []) (key_of (asks.Visible a))))) e
beyond rs (asks.Skips t) e = ap (λ b. reply.Marks (marks_in (first_row (cond b rs []) (key_of (asks.Skips t)))).0 (marks_in (first_row (cond b rs []) (key_of (asks.Skips t)))).1) e
beyond rs (asks.Applies a) e = ap (λ b. reply.Mark (mark_in (first_row (cond b rs []) (key_of (asks.Applies a))))) e
beyond rs (asks.Source a) e = ap (λ b. reply.Number (number_in (first_row (cond b rs []) (key_of (asks.Source a))))) e

at_most : (rs : List Row) (l : Listing) → length (entries rs l) ≤ 64
at_most rs l = length-listed (row_at rs l) 0 64

-- rows that break the supertrait law at no trait keep all laws
pub tabled_lawful : (rs : List Row) → ((t : ℕ) → is_some (breach_of (tabled rs) t) ≡ false) → Lawful (tabled rs)
tabled_lawful rs h = record {
  own = λ t. list_ends (λ r. r.r1) (entries rs (list.Own t)) (at_most rs (list.Own t));
  stray = λ t. list_ends (λ r. r.r1) (entries rs (list.Stray t)) (at_most rs (list.Stray t));
  item = λ k c. list_ends item_of (entries rs (list.Items k c)) (at_most rs (list.Items k c));
  bound = λ t. list_ends (λ r. r.r1) (entries rs (list.Bounds t)) (at_most rs (list.Bounds t));
  supers = λ t. list_ends (λ r. r.r1) (entries rs (list.Supers t)) (at_most rs (list.Supers t));
  supertraits = λ t. lawful_at rs t (h t);
  beyond = beyond rs;
}

-- the law at the traits that 32 bits can name is the law at all
pub lawful_everywhere : (rs : List Row) → SupertraitLaw (tabled rs) → (t : ℕ) → SupersLawful (tabled rs) t
lawful_everywhere rs h t = step (cases_lt t (2 ^ 32))
  where
    step : (t < 2 ^ 32) ⊎ (2 ^ 32 ≤ t) → SupersLawful (tabled rs) t
    step (inl l) = h t l
    step (inr l) = unspoken_lawful rs t (large_unspoken rs t (and_left (ltb t (2 ^ 32)) (small (0 ∷ [])) (le-ltb t (2 ^ 32) l)))
