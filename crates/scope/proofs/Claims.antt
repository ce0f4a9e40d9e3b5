-- The traits and the claims in a list of entries, and what a change of one entry makes of them.
use Rattle.std.proofs.Common.{◌≡◌, ℕ, zero, suc, ◌+◌, ◌<◌, Bool, not, eqb, ◌⊎◌, List, [], ◌∷◌, ◌++◌, length, Some, None, Option, get_or, set, sym, refl, ap, ◌∙◌, subst, inl, inr, ⊎_elim, arith}
use Rattle.std.specs.List.{remove, find, position, position_or_len}
use Rattle.std.specs.Option.{option_map, unwrap_or}
use Rattle.std.proofs.lemmas.List.{get_or-set_same, length-set}
use Rattle.std.proofs.lemmas.List.Folds.{find_past}
use Rattle.std.proofs.lemmas.List.Recursion.{found_push_other}
use Rattle.std.proofs.lemmas.List.Quantifiers.{position-Some}
use Rattle.std.proofs.lemmas.Bool.{cases_eq, cond-true, cond-false, eq-eqb, eqb-true, lt-ltb, ne_eqb}
use Rattle.host.specs.Meaning.{◌∈◌}
use Rattle.scope.specs.Entries.{traits_of, claims_on}
use Rattle.scope.specs.Lists.{Distinct, without}
use Rattle.scope.specs.Places.{no_entry, PlaceOf}
use Rattle.scope.specs.declared.entries.Entry.{Entry}
use Rattle.scope.proofs.Lists.{without_absent}

abbrev pub trait_at : List Entry → ℕ → ℕ
trait_at es i = (get_or es i no_entry).tr

abbrev pub claims_at : List Entry → ℕ → ℕ
claims_at es i = (get_or es i no_entry).claims

-- whether the entry is of the trait t
abbrev pub is_of : ℕ → Entry → Bool
is_of t e = eqb e.tr t

-- the claims of what a search found
abbrev claims_of : Option Entry → ℕ
claims_of found = unwrap_or (option_map (λ (e : Entry). e.claims) found) 0

-- the claims on the first entry's trait, and on another
pub claims_here : (e : Entry) (es : List Entry) (t : ℕ) → e.tr ≡ t → claims_on (e ∷ es) t ≡ e.claims
claims_here e es t is = ap claims_of (cond-true _ _ _ (eq-eqb _ _ is))

pub claims_past : (e : Entry) (es : List Entry) (t : ℕ) → (e.tr ≡ t → ⊥) → claims_on (e ∷ es) t ≡ claims_on es t
claims_past e es t apart = ap claims_of (cond-false _ _ _ (ne_eqb _ _ apart))

-- behind the same first entry
claims_later : (e : Entry) (es fs : List Entry) (t : ℕ) → claims_on es t ≡ claims_on fs t → claims_on (e ∷ es) t ≡ claims_on (e ∷ fs) t
claims_later e es fs t same =
    ⊎_elim
    (λ (q : e.tr ≡ t). claims_here e es t q ∙ sym (claims_here e fs t q))
    (λ (n : e.tr ≡ t → ⊥). claims_past e es t n ∙ same ∙ sym (claims_past e fs t n))
    (cases_eq e.tr t)

pub claims_absent : (es : List Entry) (t : ℕ) → (t ∈ traits_of es → ⊥) → claims_on es t ≡ 0
claims_absent [] t n = refl
claims_absent (e ∷ es) t n = claims_past e es t (λ q. n (inl (sym q))) ∙ claims_absent es t (λ m. n (inr m))

-- a trait with a claim out is listed
pub listed_or_none : (es : List Entry) (t : ℕ) → (t ∈ traits_of es) ⊎ (claims_on es t ≡ 0)
listed_or_none [] t = inr refl
listed_or_none (e ∷ es) t = step (cases_eq e.tr t) (listed_or_none es t)
  where
    step : (e.tr ≡ t) ⊎ (e.tr ≡ t → ⊥) → (t ∈ traits_of es) ⊎ (claims_on es t ≡ 0) → (t ∈ traits_of (e ∷ es)) ⊎ (claims_on (e ∷ es) t ≡ 0)
    step (inl q) h = inl (inl (sym q))
    step (inr n) (inl m) = inl (inr m)
    step (inr n) (inr z) = inr (claims_past e es t n ∙ z)

-- an entry by its place
pub in_at : (es : List Entry) (i : ℕ) → i < length es → trait_at es i ∈ traits_of es
in_at [] i l = absurd (omega arith)
in_at (e ∷ es) zero l = inl refl
in_at (e ∷ es) (suc i) l = inr (in_at es i (omega arith))

pub apart_from_later : (e : Entry) (es : List Entry) (i : ℕ) → Distinct (traits_of (e ∷ es)) → i < length es → e.tr ≡ trait_at es i → ⊥
apart_from_later e es i d l q = d.0 (subst (λ u. u ∈ traits_of es) (sym q) (in_at es i l))

pub claims_on_at : (es : List Entry) (i : ℕ) → Distinct (traits_of es) → i < length es → claims_on es (trait_at es i) ≡ claims_at es i
claims_on_at [] i d l = absurd (omega arith)
claims_on_at (e ∷ es) zero d l = claims_here e es e.tr refl
claims_on_at (e ∷ es) (suc i) d l =
    let l' : i < length es = omega arith in
    claims_past e es _ (apart_from_later e es i d l') ∙ claims_on_at es i d.1 l'

-- another entry of the same trait in its place
pub traits_set : (es : List Entry) (i : ℕ) (x : Entry) → trait_at es i ≡ x.tr → traits_of (set es i x) ≡ traits_of es
traits_set [] i x is = refl
traits_set (e ∷ es) zero x is = ap (λ t. t ∷ traits_of es) (sym is)
traits_set (e ∷ es) (suc i) x is = ap (λ ts. e.tr ∷ ts) (traits_set es i x is)

pub claims_set_other : (es : List Entry) (i : ℕ) (x : Entry) (u : ℕ) → trait_at es i ≡ x.tr → (u ≡ x.tr → ⊥) → claims_on (set es i x) u ≡ claims_on es u
claims_set_other es i x u is n =
    ap claims_of (find_past (is_of u) es i x no_entry (ne_eqb _ _ (λ q. n (sym q ∙ is))) (ne_eqb _ _ (λ q. n (sym q))))

pub claims_set_same : (es : List Entry) (i : ℕ) (x : Entry) → Distinct (traits_of es) → i < length es → trait_at es i ≡ x.tr → claims_on (set es i x) x.tr ≡ x.claims
claims_set_same es i x d l is =
    let here : get_or (set es i x) i no_entry ≡ x = get_or-set_same es i x no_entry l in
    let l' : i < length (set es i x) = omega (arith, length-set es i x) in
    ap (λ (e : Entry). claims_on (set es i x) e.tr) (sym here)
    ∙ claims_on_at (set es i x) i (subst Distinct (sym (traits_set es i x is)) d) l'
    ∙ ap (λ (e : Entry). e.claims) here

-- one entry more at the end
pub claims_push_same : (es : List Entry) (x : Entry) → (x.tr ∈ traits_of es → ⊥) → claims_on (es ++ (x ∷ [])) x.tr ≡ x.claims
claims_push_same [] x n = claims_here x [] x.tr refl
claims_push_same (e ∷ es) x n = claims_past e _ x.tr (λ q. n (inl (sym q))) ∙ claims_push_same es x (λ m. n (inr m))

pub claims_push_other : (es : List Entry) (x : Entry) (u : ℕ) → (u ≡ x.tr → ⊥) → claims_on (es ++ (x ∷ [])) u ≡ claims_on es u
claims_push_other es x u n =
    ap claims_of (found_push_other (find (is_of u)) (is_of u) Some None refl (λ _ _. refl) es x (ne_eqb _ _ (λ q. n (sym q))))

-- one entry less
pub traits_removed : (es : List Entry) (i : ℕ) → Distinct (traits_of es) → i < length es → traits_of (remove es i) ≡ without (trait_at es i) (traits_of es)
traits_removed [] i d l = absurd (omega arith)
traits_removed (e ∷ es) zero d l =
    sym (cond-false _ _ _ (ap not (eq-eqb e.tr e.tr refl)) ∙ without_absent e.tr (traits_of es) d.0)
traits_removed (e ∷ es) (suc i) d l =
    let l' : i < length es = omega arith in
    ap (λ ts. e.tr ∷ ts) (traits_removed es i d.1 l')
    ∙ sym (cond-true _ _ _ (ap not (ne_eqb e.tr (trait_at es i) (apart_from_later e es i d l'))))

pub claims_removed_other : (es : List Entry) (i u : ℕ) → (u ≡ trait_at es i → ⊥) → claims_on (remove es i) u ≡ claims_on es u
claims_removed_other [] zero u n = refl
claims_removed_other [] (suc i) u n = refl
claims_removed_other (e ∷ es) zero u n = sym (claims_past e es u (λ q. n (sym q)))
claims_removed_other (e ∷ es) (suc i) u n = claims_later e _ _ u (claims_removed_other es i u n)

-- entries with the same traits and the same claims are the same entries
same_entry : (e f : Entry) → e.tr ≡ f.tr → e.claims ≡ f.claims → e ≡ f
same_entry e f p q = λ i. record { tr = p i; claims = q i }

pub same_entries : (es fs : List Entry) → Distinct (traits_of es) → traits_of es ≡ traits_of fs → ((u : ℕ) → claims_on es u ≡ claims_on fs u) → es ≡ fs
same_entries [] [] d ts cs = refl
same_entries [] (f ∷ fs) d ts cs = cc
same_entries (e ∷ es) [] d ts cs = cc
same_entries (e ∷ es) (f ∷ fs) d ts cs =
    let tr : e.tr ≡ f.tr = cc in
    let rest : traits_of es ≡ traits_of fs = cc in
    let claims : e.claims ≡ f.claims = sym (claims_here e es e.tr refl) ∙ cs e.tr ∙ claims_here f fs e.tr (sym tr) in
    let counts : (u : ℕ) → claims_on es u ≡ claims_on fs u = λ u.
    ⊎_elim
    (λ (q : e.tr ≡ u).
    let absent : u ∈ traits_of es → ⊥ = λ m. d.0 (subst (λ v. v ∈ traits_of es) (sym q) m) in
    claims_absent es u absent ∙ sym (claims_absent fs u (λ m. absent (subst (λ l. u ∈ l) (sym rest) m))))
    (λ (n : e.tr ≡ u → ⊥). sym (claims_past e es u n) ∙ cs u ∙ claims_past f fs u (λ q. n (tr ∙ q)))
    (cases_eq e.tr u) in
    ap (λ x. x ∷ es) (same_entry e f tr claims) ∙ ap (λ l. f ∷ l) (same_entries es fs d.1 rest counts)

abbrev place : List Entry → ℕ → ℕ
place es t = position_or_len (is_of t) es

-- a search for a trait ends at its entry, or past all where it has none
listed_within : (es : List Entry) (t : ℕ) → t ∈ traits_of es → place es t < length es
listed_within [] t m = absurd m
listed_within (e ∷ es) t m = step (cases_eq e.tr t) m (listed_within es t)
  where
    step : (e.tr ≡ t) ⊎ (e.tr ≡ t → ⊥) → t ∈ traits_of (e ∷ es) → (t ∈ traits_of es → place es t < length es) → place (e ∷ es) t < length (e ∷ es)
    step (inl q) m rest = let first = cond-false _ (1 + place es t) 0 (ap not (eq-eqb e.tr t q)) in omega arith
    step (inr n) (inl q) rest = absurd (n (sym q))
    step (inr n) (inr later) rest =
        let next = cond-true _ (1 + place es t) 0 (ap not (ne_eqb e.tr t n)) in
        let within = rest later in
        omega arith

pub place_from_position : (es : List Entry) (t : ℕ) (r : Option ℕ) → r ≡ position (is_of t) es → PlaceOf es t r
place_from_position es t (Some i) is =
    let at = position-Some (is_of t) es i no_entry (sym is) in
    (at.0, eqb-true _ _ at.1)
place_from_position es t None is = λ m.
    let found = cond-true _ (Some (place es t)) None (lt-ltb _ _ (listed_within es t m)) in
    cc
