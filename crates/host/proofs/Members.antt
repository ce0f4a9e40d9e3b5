-- What a number is read as is the member that has it, in a table of all members.
use Rattle.std.proofs.Common.{◌≡◌, ℕ, List, [], ◌∷◌, Some, None, Ok, Err, Option, Result, sym, refl, ap, ◌∙◌, arith}
use Rattle.std.specs.Result.{result_ok}
use Rattle.std.proofs.lemmas.Bool.Decides.{nat_tests}
use Rattle.host.specs.declared.forms.Form.TheVariants as form
use Rattle.host.specs.declared.forms.ContainerKind.TheVariants as container
use Rattle.host.specs.declared.forms.Sort.TheVariants as sort
use Rattle.host.specs.declared.forms.CandidateClass.TheVariants as class
use Rattle.host.specs.declared.forms.Wrap.TheVariants as wrap
use Rattle.host.specs.declared.forms.Mode.TheVariants as mode
use Rattle.host.specs.declared.forms.QuestionKind.TheVariants as kind
use Rattle.host.specs.declared.numbers.UnknownNumber.{UnknownNumber}
use Rattle.host.specs.Numbers.{Reads, member, form_number, container_number, sort_number, class_number, wrap_number, mode_number, question_number, forms, container_kinds, sorts, candidate_classes, wraps, modes, question_kinds}

-- every member stands in the table under its number
abbrev pub Whole : {X : Type 0} → (X → ℕ) → List X → Type 0
Whole {X} code table = (x : X) → member code table (code x) ≡ Some x

-- the member of a number has it
has_number : {X : Type 0} (code : X → ℕ) (xs : List X) (n : ℕ) (x : X) → member code xs n ≡ Some x → code x ≡ n
has_number code [] n x e = cc
has_number code (y ∷ ys) n x e = let more = has_number code ys n x in grind (arith, nat_tests)

pub read_member : {X : Type 0} (code : X → ℕ) (table : List X) → Whole code table → (n : ℕ) (r : Result X UnknownNumber) → Reads code n r → result_ok r ≡ member code table n
read_member code table whole n (Ok x) h = sym (whole x) ∙ ap (member code table) h.1
read_member {X} code table whole n (Err e) h = step (member code table n) refl
  where
    step : (o : Option X) → member code table n ≡ o → None ≡ member code table n
    step None m = sym m
    step (Some x) m = let g = h.0 x (has_number code table n x m) in cc

pub whole_forms : Whole form_number forms
whole_forms form.Other = refl
whole_forms form.Dynamic = refl
whole_forms form.Adt = refl
whole_forms form.Foreign = refl
whole_forms form.Param = refl
whole_forms form.Plain = refl
whole_forms form.Array = refl
whole_forms form.RawPtrMut = refl
whole_forms form.Ref = refl
whole_forms form.RefMut = refl
whole_forms form.RawPtrConst = refl

pub whole_container_kinds : Whole container_number container_kinds
whole_container_kinds container.Impl = refl
whole_container_kinds container.Trait = refl

pub whole_sorts : Whole sort_number sorts
whole_sorts sort.Function = refl
whole_sorts sort.Const = refl
whole_sorts sort.Alias = refl

pub whole_candidate_classes : Whole class_number candidate_classes
whole_candidate_classes class.Impl = refl
whole_candidate_classes class.Object = refl
whole_candidate_classes class.Trait = refl
whole_candidate_classes class.Bound = refl

pub whole_wraps : Whole wrap_number wraps
whole_wraps wrap.Bare = refl
whole_wraps wrap.Ref = refl
whole_wraps wrap.RefMut = refl
whole_wraps wrap.ConstPtr = refl

pub whole_modes : Whole mode_number modes
whole_modes mode.MethodCall = refl
whole_modes mode.Path = refl

pub whole_question_kinds : Whole question_number question_kinds
whole_question_kinds kind.Form = refl
whole_question_kinds kind.Own = refl
whole_question_kinds kind.Stray = refl
whole_question_kinds kind.Item = refl
whole_question_kinds kind.Bound = refl
whole_question_kinds kind.Supers = refl
whole_question_kinds kind.Visible = refl
whole_question_kinds kind.Skips = refl
whole_question_kinds kind.Applies = refl
whole_question_kinds kind.Source = refl
