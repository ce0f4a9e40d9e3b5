-- Lists that are asked by place.
use Rattle.std.specs.Prelude.{◌≡◌, ℕ, Option}

-- whatever is answered at a place is what f has there
abbrev pub AnswersAs : (ℕ → Option ℕ → Type 0) → (ℕ → Option ℕ) → Type 0
AnswersAs answers f = (p : ℕ) (o : Option ℕ) → answers p o → o ≡ f p
