-- How the supertrait law breaks at a trait.
use Rattle.std.specs.Prelude.{◌≡◌, ℕ, ◌^◌, ◌<◌, ◌≤◌, cond, not, ◌&&◌, List, [], ◌∷◌, ◌++◌, codes, decimal, Some, None, Option, ◌==◌, ◌≢◌, nat_eq}
use Rattle.roll.specs.Equality.{on}
use Rattle.host.specs.Meaning.{Meaning, ◌∈◌, supers_of}
use Rattle.host.specs.Law.{SupersLawful}
use Rattle.std.specs.Option.{option_or}
use Rattle.rows.specs.declared.rows.Row.{Row}
use Rattle.rows.specs.declared.laws.Breach.{Breach}
use Rattle.rows.specs.declared.laws.Breach.TheVariants.{NotItself, Missing, Mutual}

-- What an answer tells of the law at a trait: none that it holds there, and each breach what is wrong.
abbrev pub Tells : Meaning → ℕ → Option Breach → Type 0
Tells m t None = SupersLawful m t
Tells m t (Some (NotItself x)) = (m.supers t 0 ≡ Some x) × (x ≢ t)
Tells m t (Some (Missing u v)) = (u ∈ supers_of m t) × (v ∈ supers_of m u) × (v ∈ supers_of m t → ⊥)
Tells m t (Some (Mutual u)) = (u ∈ supers_of m t) × (t ∈ supers_of m u) × (t ≢ u)

-- Of several breaches the first is told: the beginning, then entry by entry in their order a mutual pair, then the first
-- trait above the entry that is missing.
abbrev pub first_some : {X Y : Type 0} → (X → Option Y) → List X → Option Y
first_some f [] = None
first_some f (x ∷ xs) = option_or (f x) (first_some f xs)

-- the beginning; rows never leave a trait without supers, so there is nothing to tell of an empty list
abbrev pub beginning : ℕ → List ℕ → Option Breach
beginning t [] = None
beginning t (x ∷ xs) = cond (x == t) None (Some (NotItself x))

abbrev pub mutual_with : ℕ → ℕ → List ℕ → Option Breach
mutual_with t u above = cond (not (u == t) && on nat_eq above t) (Some (Mutual u)) None

abbrev pub missing : List ℕ → ℕ → ℕ → Option Breach
missing supers u v = cond (on nat_eq supers v) None (Some (Missing u v))

abbrev pub entry_breach : Meaning → ℕ → List ℕ → ℕ → Option Breach
entry_breach m t supers u = option_or (mutual_with t u (supers_of m u)) (first_some (missing supers u) (supers_of m u))

abbrev pub breach_of : Meaning → ℕ → Option Breach
breach_of m t = option_or (beginning t (supers_of m t)) (first_some (entry_breach m t (supers_of m t)) (supers_of m t))

-- how a breach is told
abbrev pub said : Breach → List ℕ
said (NotItself x) = codes "its supers begin with trait " ++ decimal x
said (Missing u v) = codes "its supers have trait " ++ (decimal u ++ (codes " and lack trait " ++ (decimal v ++ codes ", which is above that")))
said (Mutual u) = codes "it and trait " ++ (decimal u ++ codes " stand above each other")

-- a row that can make a trait's supers more than the trait alone: one of theirs, at place 0 or 1
abbrev pub Begins : Row → Type 0
Begins r = (r.key.question ≡ 6) × (r.key.a2 ≤ 1)

-- the law fails at the trait of this row
abbrev pub Broken : Meaning → Row → Type 0
Broken m r = (r.key.a1 < 2 ^ 32) × (SupersLawful m r.key.a1 → ⊥)

-- it holds there, or the row does not matter
abbrev pub Unbroken : Meaning → Row → Type 0
Unbroken m r = Begins r → SupersLawful m r.key.a1
