-- What each call does to the traits in scope and their claims, in order of arrival.
use Rattle.std.specs.Prelude.{◌≡◌, ℕ, ◌+◌, ◌<◌, ◌⊎◌, List, [], ◌∷◌, ◌++◌, length, Ok, Err, Result, ◌≢◌}
use Rattle.host.specs.declared.refusals.Refusal.{Refusal}
use Rattle.host.specs.declared.refusals.Refusal.TheVariants.{TooManyTraits, TooManyClaims, NoClaimOut}
use Rattle.scope.specs.Entries.{traits_of, claims_on}
use Rattle.scope.specs.Lists.{Distinct, without}
use Rattle.scope.specs.declared.entries.Entry.{Entry}

abbrev pub Answer : Type 0
Answer = Result (Unit {0}) Refusal

-- the claims on every other trait are as before
abbrev pub OthersStay : List Entry → ℕ → List Entry → Type 0
OthersStay before t after = (u : ℕ) → (u ≢ t) → claims_on after u ≡ claims_on before u

-- One claim more on t. A trait that had none arrives last; else all keep their places. No trait is listed twice.
pub record Raised (before : List Entry) (t : ℕ) (after : List Entry) : Type 0 where
  pub more : claims_on after t ≡ claims_on before t + 1
  pub others : OthersStay before t after
  pub arrives : claims_on before t ≡ 0 → traits_of after ≡ traits_of before ++ (t ∷ [])
  pub stays : 0 < claims_on before t → traits_of after ≡ traits_of before
  pub distinct : Distinct (traits_of after)

-- One claim less on t. With its last claim it leaves; the others keep their order. No trait is listed twice.
pub record Lowered (before : List Entry) (t : ℕ) (after : List Entry) : Type 0 where
  pub fewer : claims_on after t + 1 ≡ claims_on before t
  pub others : OthersStay before t after
  pub leaves : claims_on before t ≡ 1 → traits_of after ≡ without t (traits_of before)
  pub stays : 1 < claims_on before t → traits_of after ≡ traits_of before
  pub distinct : Distinct (traits_of after)

-- why one claim more on t is refused
abbrev pub Full : List Entry → ℕ → Refusal → Type 0
Full es t e =
    ((e ≡ TooManyTraits) × (claims_on es t ≡ 0) × (length es ≡ 64)) ⊎ ((e ≡ TooManyClaims) × (claims_on es t ≡ 65535))

-- granted exactly if there is no reason to refuse; refused, nothing has changed
abbrev pub Admits : List Entry → ℕ → Answer → List Entry → Type 0
Admits before t (Ok _) after = ((e : Refusal) → Full before t e → ⊥) × Raised before t after
Admits before t (Err e) after = Full before t e × (after ≡ before)

-- granted exactly if a claim is out; refused, nothing has changed
abbrev pub Releases : List Entry → ℕ → Answer → List Entry → Type 0
Releases before t (Ok _) after = Lowered before t after
Releases before t (Err e) after = (e ≡ NoClaimOut) × (claims_on before t ≡ 0) × (after ≡ before)

-- Two outcomes of the same call on the same scope are equal: the relations leave nothing open.
abbrev pub Determined : (List Entry → ℕ → Answer → List Entry → Type 0) → Type 0
Determined Call = (es fs gs : List Entry) (t : ℕ) (a b : Answer) → Call es t a fs → Call es t b gs → (a ≡ b) × (fs ≡ gs)
