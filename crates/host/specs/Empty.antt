-- The empty host keeps the laws.
use Rattle.std.specs.Prelude.{◌≡◌, ℕ, ◌+◌, ◌<◌, cond, ◌⊎◌, [], ◌∷◌, Some, None, ◌==◌, refl}
use Rattle.std.proofs.Common.{sym, ap, subst, inl, inr, arith}
use Rattle.std.proofs.lemmas.Bool.{ne_eqb}
use Rattle.host.specs.Meaning.{supers_of, listed_from, ◌∈◌}
use Rattle.host.specs.Law.{Ends, Lawful, empty_host}

nothing_ends : {X : Type 0} → Ends {X = X} (λ p. None)
nothing_ends = record { stays = λ p e. refl; short = λ p h. refl }

past_first : (t p : ℕ) → 0 < p → cond (p == 0) (Some t) None ≡ None
past_first t p h = ap (λ b. cond b (Some t) None) (ne_eqb p 0 (λ e. omega arith))

supers_are : (t : ℕ) → supers_of empty_host t ≡ t ∷ []
unfolding listed_from
supers_are t = refl

in_supers : (t u : ℕ) → u ∈ supers_of empty_host t → u ≡ t
in_supers t u h = step (subst (λ l. u ∈ l) (supers_are t) h)
  where
    step : (u ≡ t) ⊎ ⊥ → u ≡ t
    step (inl e) = e
    step (inr n) = absurd n

pub empty_host_lawful : Lawful empty_host
empty_host_lawful = record {
  own = λ t. nothing_ends;
  stray = λ t. nothing_ends;
  item = λ k c. nothing_ends;
  bound = λ t. nothing_ends;
  supers = λ t. record { stays = λ p e. past_first t (p + 1) (omega arith); short = λ p h. past_first t p (omega arith) };
  supertraits = λ t. record {
    itself = refl;
    closed = λ u v a b. subst (λ w. v ∈ supers_of empty_host w) (in_supers t u a) b;
    one = λ u a b. sym (in_supers t u a);
  };
  beyond = λ q e. refl;
}
