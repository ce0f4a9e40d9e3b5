-- What one more offer, and one more place, do to the definitions: the steps by which a program is proved.
use Rattle.std.proofs.Common.{◌≡◌, ℕ, suc, ◌+◌, ◌-◌, ◌<◌, Bool, true, false, cond, not, ◌||◌, List, [], ◌∷◌, ◌++◌, filter, refl, ap, ◌∙◌, inl, inr, append_assoc, append-nil, arith}
use Rattle.method_resolution.specs.Types.{Option, Refusal}
use Rattle.std.specs.List.{flat_map}
use Rattle.std.proofs.lemmas.List.Elements.{filter-append}
use Rattle.host.specs.Meaning.{listed_from, joined}
use Rattle.method_resolution.specs.Words.{First, NoneOf}
use Rattle.method_resolution.specs.Questions.{Question}
use Rattle.method_resolution.specs.Offers.{Offer, once, same_impl}
use Rattle.method_resolution.specs.Assembly.{ListName, candidate_of, goes_on, candidates_on, Fits, Overfull, Overfills}
use Rattle.method_resolution.proofs.ListFacts.{all_append}
use Rattle.method_resolution.proofs.AssembledLists.{candidates_on-append}

-- an impl that was offered before
abbrev pub met_before : Offer → List Offer → Bool
met_before o [] = false
met_before o (p ∷ ps) = same_impl p o || met_before o ps

-- One more offer comes to the end, unless it is an impl that was met.
pub once_more : (os : List Offer) (o : Offer) → once (os ++ (o ∷ [])) ≡ once os ++ cond (met_before o os) [] (o ∷ [])
once_more [] o = refl
once_more (p ∷ ps) o =
    ap (λ l. p ∷ filter (λ x. not (same_impl p x)) l) (once_more ps o)
    ∙ ap (λ l. p ∷ l) (filter-append (λ x. not (same_impl p x)) (once ps) (cond (met_before o ps) [] (o ∷ [])) ∙ ap (λ l. filter (λ x. not (same_impl p x)) (once ps) ++ l) (step (same_impl p o) refl (met_before o ps)))
  where
    step : (b : Bool) → same_impl p o ≡ b → (c : Bool) → filter (λ x. not (same_impl p x)) (cond c [] (o ∷ [])) ≡ cond (b || c) [] (o ∷ [])
    step true e true = refl
    step true e false = ap (λ b. cond (not b) (o ∷ []) []) e
    step false e true = refl
    step false e false = ap (λ b. cond (not b) (o ∷ []) []) e

-- The lists grow at their ends.
pub candidates_more : (q : Question) (l : ListName) (os : List Offer) (o : Offer) → candidates_on q l (os ++ (o ∷ [])) ≡ candidates_on q l os ++ filter (goes_on q l) (candidate_of q o)
unfolding candidates_on
candidates_more q l os o = candidates_on-append q l os (o ∷ []) ∙ ap (λ r. filter (goes_on q l) (flat_map (candidate_of q) os) ++ filter (goes_on q l) r) (append-nil (candidate_of q o))

-- A refusal stays, whatever would come behind.
pub overfills_more : (q : Question) (os ps : List Offer) (e : Refusal) → Overfills q os e → Overfills q (os ++ ps) e
overfills_more q os ps e o = record {
  before = o.before;
  next = o.next;
  after = o.after ++ ps;
  are = ap (λ l. l ++ ps) o.are ∙ append_assoc o.before (o.next ∷ o.after) ps;
  fits = o.fits;
  full = o.full;
}

pub overfills_now : (q : Question) (os : List Offer) (o : Offer) (e : Refusal) → Fits q os → Overfull q (os ++ (o ∷ [])) e → Overfills q (os ++ (o ∷ [])) e
overfills_now q os o e f h = record { before = os; next = o; after = []; are = refl; fits = f; full = h }

-- one place on in a list that is asked by place
module _ {X : Type 0} (f : ℕ → Option X) (p : ℕ) (h : p < 64) where
  pub listed_next : listed_from f p (64 - p) ≡ joined (f p) (listed_from f (p + 1) (64 - (p + 1)))
  unfolding listed_from
  listed_next = let e : 64 - p ≡ suc (64 - (p + 1)) = omega arith in ap (listed_from f p) e

-- The first, behind others that are none. Nothing cites these yet: they are for the pick, which is still to come.
module _ {X : Type 0} (P : X → Type 0) where
  pub first_behind : (xs ys : List X) (y : X) → NoneOf P xs → First P ys y → First P (xs ++ ys) y
  first_behind [] ys y n h = h
  first_behind (x ∷ xs) ys y n h = inr (n.0, first_behind xs ys y n.1 h)

  pub first_before : (xs ys : List X) (x : X) → First P xs x → First P (xs ++ ys) x
  first_before [] ys x h = absurd h
  first_before (z ∷ zs) ys x (inl h) = inl h
  first_before (z ∷ zs) ys x (inr h) = inr (h.0, first_before zs ys x h.1)

  pub none_more : (xs : List X) (x : X) → NoneOf P xs → (P x → ⊥) → NoneOf P (xs ++ (x ∷ []))
  none_more xs x n h = all_append (λ z. P z → ⊥) xs (x ∷ []) n (h, tt)
