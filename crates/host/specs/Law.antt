-- The laws that every host's answers keep.
use Rattle.std.specs.Prelude.{◌≡◌, ℕ, ◌+◌, ◌^◌, ◌<◌, ◌≤◌, false, cond, Some, None, Option, ◌==◌}
use Rattle.host.specs.declared.forms.ContainerKind.{ContainerKind}
use Rattle.host.specs.declared.forms.Form.TheVariants.{Other}
use Rattle.host.specs.declared.questions.Question.{Question}
use Rattle.host.specs.Meaning.{Meaning, ◌∈◌, supers_of}
use Rattle.host.specs.Questions.{answer, askable}

-- The empty host: every type is of form `Other`, no container has an item, and a trait's supers are the trait alone.
abbrev pub empty_host : Meaning
empty_host = record {
  form = λ t. record { form = Other; definition = 0; boxed_slice = false };
  own = λ t p. None;
  stray = λ t p. None;
  item = λ k c p. None;
  bound = λ t p. None;
  supers = λ t p. cond (p == 0) (Some t) None;
  visible = λ k c p. false;
  skips = λ t. (false, false);
  applies = λ k c p o t w d. false;
  source = λ c p t w d. None;
}

-- The list law: past the end each answer is absent, and a list has at most 64 entries.
pub record Ends {X : Type 0} (f : ℕ → Option X) : Type 0 where
  pub stays : (p : ℕ) → f p ≡ None → f (p + 1) ≡ None
  pub short : (p : ℕ) → 64 ≤ p → f p ≡ None

-- The supertrait law at one trait: its supers begin with itself, contain the supers of each entry, and no other trait
-- among them has it among its own.
pub record SupersLawful (m : Meaning) (t : ℕ) : Type 0 where
  pub itself : m.supers t 0 ≡ Some t
  pub closed : (u v : ℕ) → u ∈ supers_of m t → v ∈ supers_of m u → v ∈ supers_of m t
  pub one : (u : ℕ) → u ∈ supers_of m t → t ∈ supers_of m u → t ≡ u

-- The supertrait law, at every trait that a 32-bit number can name.
abbrev pub SupertraitLaw : Meaning → Type 0
SupertraitLaw m = (t : ℕ) → t < 2 ^ 32 → SupersLawful m t

-- It fails at one of those traits.
abbrev pub SupertraitLawFails : Meaning → Type 0
SupertraitLawFails m = (t : ℕ) × (t < 2 ^ 32) × (SupersLawful m t → ⊥)

-- What a host shows of its meaning: the list law, the supertrait law, and that a question which nobody can ask, since a
-- number of it has more than 32 bits, stands as at the empty host, so that hosts of equal meanings have one meaning.
pub record Lawful (m : Meaning) : Type 0 where
  pub own : (t : ℕ) → Ends (m.own t)
  pub stray : (t : ℕ) → Ends (m.stray t)
  pub item : (k : ContainerKind) (c : ℕ) → Ends (m.item k c)
  pub bound : (t : ℕ) → Ends (m.bound t)
  pub supers : (t : ℕ) → Ends (m.supers t)
  pub supertraits : (t : ℕ) → SupersLawful m t
  pub beyond : (q : Question) → askable q ≡ false → answer m q ≡ answer empty_host q
