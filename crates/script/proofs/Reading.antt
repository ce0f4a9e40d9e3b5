-- What the proofs share: the steps of reading, one after the other.
use Rattle.std.proofs.Common.{◌≡◌, ℕ, ◌+◌, ◌<◌, ◌≤◌, List, [], ◌∷◌, ◌++◌, length, get_or, take, drop, set, IsErrAnd, Ok, Err, Result, sym, refl, ap, ◌∙◌, add_assoc, arith, Bor}
use Rattle.std.proofs.lemmas.List.{append_assoc, append-nil, length-map, drop_more, take_more_set, get_or-map, drop_all, take_all}
use Rattle.std.proofs.lemmas.Result.{err_from_is_err_and}
use Rattle.std.proofs.lemmas.Bool.Decides.{nat_tests}
use Rattle.script.specs.declared.faults.Fault.{Fault}
use Rattle.script.specs.declared.faults.Fault.TheVariants.{TooFewWords, TooManyWords}
use Rattle.script.specs.Grammar.{Text, texts, ◌then◌, exactly, number_at, numbers_from}

-- what `?` returns
pub failed : {X : Type 0} (r : Result X Fault) (fault : Fault) → IsErrAnd r (λ e. e ≡ fault) → r ≡ Err fault
failed r fault h = let p = err_from_is_err_and r h in p.1 ∙ ap Err p.2

-- stands for what lies past the end
abbrev pub blank : Bor Text
blank = record { ref_ptr = (0, 0); now = [] }

-- the count of the words
module _ {X : Type 0} (count : ℕ) (ws : List (Bor Text)) (r : Result X Fault) where
  pub few : length ws < count → exactly count (texts ws) r ≡ Err TooFewWords
  unfolding exactly
  few h = simp length-map (grind (arith, nat_tests))

  pub many : count < length ws → exactly count (texts ws) r ≡ Err TooManyWords
  unfolding exactly
  many h = simp length-map (grind (arith, nat_tests))

  pub counted : length ws ≡ count → exactly count (texts ws) r ≡ r
  unfolding exactly
  counted h = simp length-map (grind (arith, nat_tests))

-- the numbers behind those already read
abbrev pub behind : List ℕ → Result (List ℕ) Fault → Result (List ℕ) Fault
behind done r = r then (λ ns. Ok (done ++ ns))

behind_more : (done : List ℕ) (n : ℕ) (r : Result (List ℕ) Fault) → behind done (r then (λ ns. Ok (n ∷ ns))) ≡ behind (done ++ n ∷ []) r
behind_more done n (Ok ns) = ap Ok (sym (append_assoc done (n ∷ []) ns))
behind_more done n (Err fault) = refl

-- one word more
word_read : (place n : ℕ) (w : Text) (ws : List Text) (done : List ℕ) → Ok n ≡ number_at place w →
    behind done (numbers_from place (w ∷ ws)) ≡ behind (done ++ n ∷ []) (numbers_from (place + 1) ws)
unfolding numbers_from
word_read place n w ws done e =
    ap (λ s. behind done (s then (λ m. numbers_from (place + 1) ws then (λ ns. Ok (m ∷ ns))))) (sym e) ∙
    behind_more done n (numbers_from (place + 1) ws)

-- the first word that is no number
word_refused : (place : ℕ) (w : Text) (ws : List Text) (done : List ℕ) (fault : Fault) → Err fault ≡ number_at place w →
    behind done (numbers_from place (w ∷ ws)) ≡ Err fault
unfolding numbers_from
word_refused place w ws done fault e =
    ap (λ s. behind done (s then (λ m. numbers_from (place + 1) ws then (λ ns. Ok (m ∷ ns))))) (sym e)

all_read : (place : ℕ) (done : List ℕ) → behind done (numbers_from place []) ≡ Ok done
unfolding numbers_from
all_read place done = ap Ok (append-nil done)

-- the same in the loop: i words are read, and r is the answer for all of them
module _ (ws : List (Bor Text)) (found : List ℕ) (first i : ℕ) (r : Result (List ℕ) Fault)
    (inv : behind (take i found) (numbers_from (first + i) (drop i (texts ws))) ≡ r) where
  next_word : i < length ws →
      behind (take i found) (numbers_from (first + i) ((get_or ws i blank).now ∷ drop (i + 1) (texts ws))) ≡ r
  next_word h =
      let k : i < length (texts ws) = simp length-map h in
      let d = drop_more (texts ws) i [] k in
      let t = get_or-map (λ w. w.now) ws i blank [] h in
      ap (λ w. behind (take i found) (numbers_from (first + i) (w ∷ drop (i + 1) (texts ws)))) (sym t) ∙
      ap (λ l. behind (take i found) (numbers_from (first + i) l)) (sym d) ∙ inv

  pub loop_step : (n : ℕ) → i < length ws → i < length found → Ok n ≡ number_at (first + i) (get_or ws i blank).now →
      behind (take (i + 1) (set found i n)) (numbers_from (first + (i + 1)) (drop (i + 1) (texts ws))) ≡ r
  loop_step n h k e =
      ap (λ l. behind l (numbers_from (first + (i + 1)) (drop (i + 1) (texts ws)))) (take_more_set found i n k) ∙
      ap (λ p. behind (take i found ++ n ∷ []) (numbers_from p (drop (i + 1) (texts ws)))) (sym (add_assoc first i 1)) ∙
      sym (word_read (first + i) n (get_or ws i blank).now (drop (i + 1) (texts ws)) (take i found) e) ∙ next_word h

  pub loop_stop : (fault : Fault) → i < length ws → Err fault ≡ number_at (first + i) (get_or ws i blank).now → r ≡ Err fault
  loop_stop fault h e =
      sym (next_word h) ∙ word_refused (first + i) (get_or ws i blank).now (drop (i + 1) (texts ws)) (take i found) fault e

  pub loop_end : length ws ≡ i → length found ≡ i → r ≡ Ok found
  loop_end h k =
      let m : length (texts ws) ≤ i = simp length-map (omega arith) in
      sym inv ∙ ap (λ l. behind (take i found) (numbers_from (first + i) l)) (drop_all i (texts ws) m) ∙
      all_read (first + i) (take i found) ∙ ap Ok (take_all i found (omega arith))
