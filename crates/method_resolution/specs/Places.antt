-- Where candidates are tried, and which of them apply.
use Rattle.std.specs.Prelude.{ℕ, Bool, true, false, not, ◌&&◌, ◌||◌, List, map, filter, ◌==◌, flat_map}
use Rattle.host.specs.Numbers.{form_number, wrap_number, wraps}
use Rattle.host.specs.declared.forms.Form.TheVariants.{Array, RawPtrMut}
use Rattle.host.specs.declared.forms.Wrap.TheVariants.{Bare, Ref, RefMut, ConstPtr}
use Rattle.host.specs.declared.forms.CandidateClass.TheVariants as class
use Rattle.method_resolution.specs.Types.{Candidate, CandidateClass, CandidateKind, CandidateStep, Edition, Edition2015, Edition2018, Edition2021, Edition2024, Form, InherentImplCandidate, ObjectCandidate, Place, TraitCandidate, WhereClauseCandidate, Wrap}
use Rattle.method_resolution.specs.Questions.{Question, Scope, form_of}
use Rattle.method_resolution.specs.Offers.{offers}
use Rattle.method_resolution.specs.Assembly.{ListName, candidates_on, is_trait_candidate}

-- Candidates are tried only at steps that are reached by safe dereferences and are no errors.
abbrev pub admitted : CandidateStep → Bool
admitted step = step.reachable_via_deref && (not step.from_unsafe_deref && not step.error_only)

abbrev pub same_form : Form → Form → Bool
same_form f g = form_number f == form_number g

abbrev pub same_wrap : Wrap → Wrap → Bool
same_wrap v w = wrap_number v == wrap_number w

-- By value and const pointer fall away at an unsize step, and only a mutable raw pointer becomes a const one.
abbrev pub tried : Question → CandidateStep → Wrap → Bool
tried q step Bare = not step.unsize
tried q step Ref = true
tried q step RefMut = true
tried q step ConstPtr = not step.unsize && same_form (form_of q step) RawPtrMut

-- a step's places, in the order of the wraps
abbrev pub places_of : Question → CandidateStep → List Place
places_of q step = map (λ w. record { step = step; wrap = w }) (filter (tried q step) wraps)

-- the places of the admitted steps, in order
unfoldable pub places : Question → List Place
places q = flat_map (places_of q) (filter admitted q.steps)

abbrev pub before_2021 : Edition → Bool
before_2021 Edition2015 = true
before_2021 Edition2018 = true
before_2021 Edition2021 = false
before_2021 Edition2024 = false

abbrev pub before_2024 : Edition → Bool
before_2024 Edition2015 = true
before_2024 Edition2018 = true
before_2024 Edition2021 = true
before_2024 Edition2024 = false

-- Older editions pass over some traits at arrays and at boxed slices.
abbrev pub skipped_by_value : Question → ℕ → ℕ → Bool
skipped_by_value q tr ty =
    (same_form (q.meaning.form ty).form Array && (before_2021 q.settings.edition && (q.meaning.skips tr).0))
    || ((q.meaning.form ty).boxed_slice && (before_2024 q.settings.edition && (q.meaning.skips tr).1))

-- They do so by value only, and only with the traits in scope.
abbrev pub skipped : Question → Candidate → Place → Bool
skipped q c p = is_trait_candidate c.kind && (same_wrap p.wrap Bare && skipped_by_value q c.item.container p.step.self_ty)

abbrev pub class_of : CandidateKind → CandidateClass
class_of (InherentImplCandidate steps) = class.Impl
class_of (ObjectCandidate origin) = class.Object
class_of TraitCandidate = class.Trait
class_of (WhereClauseCandidate origin) = class.Bound

abbrev pub origin_of : CandidateKind → ℕ
origin_of (InherentImplCandidate steps) = 0
origin_of (ObjectCandidate origin) = origin
origin_of TraitCandidate = 0
origin_of (WhereClauseCandidate origin) = origin

abbrev pub host_says : Question → Candidate → Place → Bool
host_says q c p = q.meaning.applies (class_of c.kind) c.item.container c.item.place (origin_of c.kind) p.step.self_ty p.wrap q.mode

-- A candidate applies at a place if the host says so and no edition passes it over.
unfoldable pub applies : Question → Place → Candidate → Bool
applies q p c = not (skipped q c p) && host_says q c p

-- the candidates of a list that apply at a place
abbrev pub applying : Question → Scope → ListName → Place → List Candidate
applying q traits list p = filter (applies q p) (candidates_on q list (offers q traits))
