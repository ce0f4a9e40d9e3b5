-- A list asked by place.
use Rattle.std.proofs.Common.{◌≡◌, ℕ, zero, suc, ◌+◌, ◌≤◌, List, [], ◌∷◌, map, length, drop, None, sym, refl, ap, ◌∙◌, arith}
use Rattle.std.specs.Option.{option_map}
use Rattle.std.specs.List.{slice_get}
use Rattle.std.proofs.lemmas.List.{drop_all}
use Rattle.std.proofs.lemmas.Option.{none-some, slice_get_past}
use Rattle.host.specs.Law.{Ends}
use Rattle.host.specs.Meaning.{listed, listed_from, joined}

ended : {X Y : Type 0} (g : X → Y) (xs : List X) (p : ℕ) → option_map g (slice_get xs p) ≡ None → length xs ≤ p
ended g [] p e = omega arith
ended g (x ∷ xs) zero e = absurd (none-some (g x) (sym e))
ended g (x ∷ xs) (suc p) e = let h = ended g xs p e in omega arith

past : {X Y : Type 0} (g : X → Y) (xs : List X) (p : ℕ) → length xs ≤ p → option_map g (slice_get xs p) ≡ None
past g xs p h = ap (option_map g) (slice_get_past xs p h)

-- a list of at most 64 entries keeps the list law
pub list_ends : {X Y : Type 0} (g : X → Y) (xs : List X) → length xs ≤ 64 → Ends (λ p. option_map g (slice_get xs p))
list_ends g xs h = record {
  stays = λ p e. past g xs (p + 1) (omega (arith, ended g xs p e));
  short = λ p k. past g xs p (omega arith);
}

suc_add_one : (p : ℕ) → suc p + 1 ≡ suc (p + 1)
suc_add_one p = omega arith

-- one entry in front of those that come behind it
listed_step : {X Y : Type 0} (g : X → Y) (xs : List X) (p : ℕ) (ys : List Y) → ys ≡ map g (drop (p + 1) xs) → joined (option_map g (slice_get xs p)) ys ≡ map g (drop p xs)
listed_step g [] zero ys e = refl
listed_step g [] (suc p) ys e = refl
listed_step g (x ∷ xs) zero ys e = ap (λ zs. g x ∷ zs) e
listed_step g (x ∷ xs) (suc p) ys e = listed_step g xs p ys (e ∙ ap (map g) (later x xs p))
  where
    later : {X : Type 0} (x : X) (xs : List X) (p : ℕ) → drop (suc p + 1) (x ∷ xs) ≡ drop (p + 1) xs
    later x xs p = ap (λ n. drop n (x ∷ xs)) (suc_add_one p)

listed-drop : {X Y : Type 0} (g : X → Y) (xs : List X) (p n : ℕ) → length xs ≤ p + n → listed_from (λ q. option_map g (slice_get xs q)) p n ≡ map g (drop p xs)
unfolding listed_from
listed-drop g xs p zero h = sym (ap (map g) (drop_all p xs (omega arith)))
listed-drop g xs p (suc n) h = listed_step g xs p (listed_from (λ q. option_map g (slice_get xs q)) (p + 1) n) (listed-drop g xs (p + 1) n (omega arith))

-- asked by place, a list of at most 64 entries is itself
pub listed_is : {X Y : Type 0} (g : X → Y) (xs : List X) → length xs ≤ 64 → listed (λ p. option_map g (slice_get xs p)) ≡ map g xs
listed_is g xs h = listed-drop g xs 0 64 (omega arith)
