-- What the steps and the traits in scope offer, in order.
use Rattle.std.specs.Prelude.{ℕ, Bool, true, false, not, ◌&&◌, List, [], ◌∷◌, ◌++◌, map, filter, ◌==◌, flat_map}
use Rattle.host.specs.Meaning.{Meaning, listed, supers_of}
use Rattle.host.specs.declared.forms.Form.TheVariants as form
use Rattle.method_resolution.specs.Types.{CandidateKind, CandidateStep, Form, InherentImplCandidate, ObjectCandidate, TraitCandidate, WhereClauseCandidate}
use Rattle.method_resolution.specs.Questions.{Question, Scope}

-- an impl or a trait that may have an item of the name, and how it is found
pub record Offer : Type 0 where
  pub container : ℕ
  pub kind : CandidateKind

abbrev pub offers_as : CandidateKind → List ℕ → List Offer
offers_as kind containers = map (λ c. record { container = c; kind = kind }) containers

-- the supers of an object's principal trait
abbrev pub object_offers : Meaning → CandidateStep → List Offer
object_offers m step = offers_as (ObjectCandidate step.self_ty) (supers_of m (m.form step.self_ty).definition)

abbrev pub own_offers : Meaning → CandidateStep → List Offer
own_offers m step = offers_as (InherentImplCandidate step.autoderefs) (listed (m.own step.self_ty))

-- the incoherent impls
abbrev pub stray_offers : Meaning → CandidateStep → List Offer
stray_offers m step = offers_as (InherentImplCandidate step.autoderefs) (listed (m.stray step.self_ty))

-- the bounds themselves, not their supers
abbrev pub bound_offers : Meaning → CandidateStep → List Offer
bound_offers m step = offers_as (WhereClauseCandidate step.self_ty) (listed (m.bound step.self_ty))

abbrev pub offers_by_form : Meaning → CandidateStep → Form → List Offer
offers_by_form m step form.Other = []
offers_by_form m step form.Dynamic = object_offers m step ++ (own_offers m step ++ stray_offers m step)
offers_by_form m step form.Adt = own_offers m step ++ stray_offers m step
offers_by_form m step form.Foreign = own_offers m step ++ stray_offers m step
offers_by_form m step form.Param = bound_offers m step
offers_by_form m step form.Plain = stray_offers m step
offers_by_form m step form.Array = stray_offers m step
offers_by_form m step form.RawPtrMut = stray_offers m step
offers_by_form m step form.Ref = stray_offers m step
offers_by_form m step form.RefMut = stray_offers m step
offers_by_form m step form.RawPtrConst = stray_offers m step

abbrev pub step_offers : Meaning → CandidateStep → List Offer
step_offers m step = offers_by_form m step (m.form step.self_ty).form

abbrev pub is_impl : CandidateKind → Bool
is_impl (InherentImplCandidate steps) = true
is_impl (ObjectCandidate origin) = false
is_impl TraitCandidate = false
is_impl (WhereClauseCandidate origin) = false

abbrev pub same_impl : Offer → Offer → Bool
same_impl o p = is_impl o.kind && (is_impl p.kind && o.container == p.container)

-- each impl once, where it comes first; other offers stay
abbrev pub once : List Offer → List Offer
once [] = []
once (o ∷ os) = o ∷ filter (λ p. not (same_impl o p)) (once os)

-- what all steps offer, admitted or not
unfoldable pub inherent_offers : Question → List Offer
inherent_offers q = once (flat_map (step_offers q.meaning) q.steps)

abbrev pub trait_offers : Scope → List Offer
trait_offers traits = offers_as TraitCandidate traits

abbrev pub offers : Question → Scope → List Offer
offers q traits = inherent_offers q ++ trait_offers traits
