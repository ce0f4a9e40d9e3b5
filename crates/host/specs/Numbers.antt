-- The numbers by which rows and scripts write the closed sets.
use Rattle.std.specs.Prelude.{◌≡◌, ℕ, ◌==◌, List, [], ◌∷◌, find, Ok, Option, Result, MatchResult}
use Rattle.host.specs.declared.forms.ContainerKind.{ContainerKind}
use Rattle.host.specs.declared.forms.ContainerKind.TheVariants as container
use Rattle.host.specs.declared.forms.CandidateClass.{CandidateClass}
use Rattle.host.specs.declared.forms.CandidateClass.TheVariants as class
use Rattle.host.specs.declared.forms.Form.{Form}
use Rattle.host.specs.declared.forms.Form.TheVariants as form
use Rattle.host.specs.declared.forms.Sort.{Sort}
use Rattle.host.specs.declared.forms.Sort.TheVariants as sort
use Rattle.host.specs.declared.forms.Wrap.{Wrap}
use Rattle.host.specs.declared.forms.Wrap.TheVariants as wrap
use Rattle.host.specs.declared.forms.Mode.{Mode}
use Rattle.host.specs.declared.forms.Mode.TheVariants as mode
use Rattle.host.specs.declared.forms.QuestionKind.{QuestionKind}
use Rattle.host.specs.declared.forms.QuestionKind.TheVariants as kind
use Rattle.host.specs.declared.numbers.UnknownNumber.{UnknownNumber}
use Rattle.host.specs.declared.refusals.Refusal.{Refusal}
use Rattle.host.specs.declared.refusals.Refusal.TheVariants as refusal

-- r is what the number n stands for: the x that has that number, and where none has it, the number itself
abbrev pub Reads : {X : Type 0} → (X → ℕ) → ℕ → Result X UnknownNumber → Type 0
Reads {X} code n r = ((x : X) → code x ≡ n → r ≡ Ok x) × MatchResult r (λ x. code x ≡ n) (λ e. e.0 ≡ n)

abbrev pub form_number : Form → ℕ
form_number form.Other = 0
form_number form.Dynamic = 1
form_number form.Adt = 2
form_number form.Foreign = 3
form_number form.Param = 4
form_number form.Plain = 5
form_number form.Array = 6
form_number form.RawPtrMut = 7
form_number form.Ref = 8
form_number form.RefMut = 9
form_number form.RawPtrConst = 10

abbrev pub container_number : ContainerKind → ℕ
container_number container.Impl = 0
container_number container.Trait = 1

abbrev pub sort_number : Sort → ℕ
sort_number sort.Function = 0
sort_number sort.Const = 1
sort_number sort.Alias = 2

abbrev pub class_number : CandidateClass → ℕ
class_number class.Impl = 0
class_number class.Object = 1
class_number class.Trait = 2
class_number class.Bound = 3

abbrev pub wrap_number : Wrap → ℕ
wrap_number wrap.Bare = 0
wrap_number wrap.Ref = 1
wrap_number wrap.RefMut = 2
wrap_number wrap.ConstPtr = 3

abbrev pub mode_number : Mode → ℕ
mode_number mode.MethodCall = 0
mode_number mode.Path = 1

abbrev pub question_number : QuestionKind → ℕ
question_number kind.Form = 1
question_number kind.Own = 2
question_number kind.Stray = 3
question_number kind.Item = 4
question_number kind.Bound = 5
question_number kind.Supers = 6
question_number kind.Visible = 7
question_number kind.Skips = 8
question_number kind.Applies = 9
question_number kind.Source = 10

-- The members of the closed sets, in the order of their numbers.

-- the member that has the number n
abbrev pub member : {X : Type 0} → (X → ℕ) → List X → ℕ → Option X
member code xs n = find (λ x. code x == n) xs

abbrev pub forms : List Form
forms = form.Other ∷ form.Dynamic ∷ form.Adt ∷ form.Foreign ∷ form.Param ∷ form.Plain ∷ form.Array ∷ form.RawPtrMut ∷ form.Ref ∷ form.RefMut ∷ form.RawPtrConst ∷ []

abbrev pub container_kinds : List ContainerKind
container_kinds = container.Impl ∷ container.Trait ∷ []

abbrev pub sorts : List Sort
sorts = sort.Function ∷ sort.Const ∷ sort.Alias ∷ []

abbrev pub candidate_classes : List CandidateClass
candidate_classes = class.Impl ∷ class.Object ∷ class.Trait ∷ class.Bound ∷ []

abbrev pub wraps : List Wrap
wraps = wrap.Bare ∷ wrap.Ref ∷ wrap.RefMut ∷ wrap.ConstPtr ∷ []

abbrev pub modes : List Mode
modes = mode.MethodCall ∷ mode.Path ∷ []

abbrev pub question_kinds : List QuestionKind
question_kinds = kind.Form ∷ kind.Own ∷ kind.Stray ∷ kind.Item ∷ kind.Bound ∷ kind.Supers ∷ kind.Visible ∷ kind.Skips ∷ kind.Applies ∷ kind.Source ∷ []

-- the number that a refusal returns
abbrev pub refusal_number : Refusal → ℕ
refusal_number refusal.ListTooShort = 1
refusal_number refusal.TooManySteps = 2
refusal_number refusal.TooManyAutoderefs = 3
refusal_number refusal.TooManyCandidates = 4
refusal_number refusal.TooManyImpls = 5
refusal_number refusal.TooManyTraits = 6
refusal_number refusal.TooManyClaims = 7
refusal_number refusal.ForeignClaim = 8
refusal_number refusal.NoClaimOut = 9
refusal_number refusal.MalformedTables = 10
refusal_number refusal.UnlawfulSupertraits = 11
