use Rattle.std.proofs.Common.{◌≡◌, ℕ, ◌^◌, ◌<◌, true, [], ◌∷◌, ◌++◌, length, get_or, None, Ok, Err, Result, sym, refl, ap, ◌∙◌, arith, rules}
use lib.Utf8.{encode}
use Rattle.std.specs.Result.{OkIff, result_ok}
use Rattle.std.proofs.lemmas.Str.Parse.{IsNumeralModel, numerals_by_fold, parse_plain}
use Rattle.std.proofs.lemmas.Str.{encode_ascii}
use Rattle.std.proofs.lemmas.Bool.Decides.{nat_tests}
use Rattle.script.specs.Grammar.{Text, digits, value, value_after, decimal}
use Rattle.script.proofs.words.number.Goals as goal

-- a text with a plus in front is no number
signed : (w : Text) → get_or w 0 0 ≡ 43 → decimal w ≡ None
unfolding decimal
signed [] e = refl
signed (c ∷ cs) e = ap (λ d. decimal (d ∷ cs)) e

unsigned : (w : Text) → ((rest : Text) → w ≡ encode 43 ++ rest → ⊥) → get_or w 0 0 ≡ 43 → ⊥
unsigned [] h e = omega arith
unsigned (c ∷ cs) h e = h cs (ap (λ d. d ∷ cs) e ∙ ap (λ p. p ++ cs) (sym (encode_ascii 43 (omega arith))))

own : IsNumeralModel (λ ds. digits ds ≡ true) (value_after 0)
own = numerals_by_fold _ (search rules) value_after (search rules)

read : {E : Type 0} (w : Text) (r : Result ℕ E) → OkIff r ((digits w ≡ true) × (0 < length w) × (value w < 2 ^ 32)) (value w) → result_ok r ≡ decimal w
unfolding decimal
read w (Ok x) h = grind (arith, nat_tests)
read w (Err d) never = grind (arith, nat_tests)

pub returns-then-starts_with : goal.returns-then-starts_with
returns-then-starts_with c = sym (signed c.args.word.now (c.if-starts_with.ensures.cases.1.byte (omega arith)))

pub returns : goal.returns
returns c =
    c.ok.ensures.value ∙
    read c.args.word.now c.parse.result
    (parse_plain own 32 c.args.word.now c.parse.result c.parse.ensures.value.0 (unsigned c.args.word.now c.if-starts_with.ensures.cases))
