-- What a row speaks of, by the kind of its question.
use Rattle.std.proofs.Common.{◌≡◌, false, nat_eq, List, [], ◌∷◌, ◌++◌, Some, None, refl, ap, ◌∙◌, ◌||◌, ◌&&◌}
use Rattle.std.proofs.lemmas.Bool.{ne_eqb}
use Rattle.std.proofs.lemmas.Option.{none-some}
use Rattle.host.specs.Numbers.{question_number}
use Rattle.host.specs.declared.forms.QuestionKind.{QuestionKind}
use Rattle.host.specs.declared.forms.QuestionKind.TheVariants as asks
use Rattle.rows.specs.Rows.{Speaks}
use Rattle.rows.specs.declared.rows.Row.{Row}
use Rattle.vetting.specs.Subjects.{only, of_question, mentioned, asking}
use Rattle.vetting.specs.declared.speaking.Subject.{Subject}
use Rattle.vetting.specs.declared.speaking.Subject.TheVariants as about

none_of : (r : Row) → Speaks r None → (ks : List QuestionKind) → of_question r ks ≡ false
none_of r h [] = refl
none_of r h (k ∷ ks) =
    ap (λ b. b || of_question r ks) (ne_eqb (question_number k) r.key.question (λ e. none-some k ((h k).1 e))) ∙ none_of r h ks

pub mentioned_by : (s : Subject) (r : Row) (k : QuestionKind) → Speaks r (Some k) → mentioned s (asking r k) ≡ mentioned s r
mentioned_by s r k h = ap (λ n. mentioned s (record r { key = record r.key { question = n } })) ((h k).0 refl)

pub mentioned_none : (s : Subject) (r : Row) → Speaks r None → mentioned s r ≡ []
mentioned_none about.«Type» r h = ap (λ b. only b r.key.a1) (none_of r h (asks.Form ∷ asks.Own ∷ asks.Stray ∷ asks.Bound ∷ []))
mentioned_none about.Trait r h =
    let a = none_of r h (asks.Supers ∷ asks.Skips ∷ []) in
    let b = none_of r h (asks.Bound ∷ asks.Supers ∷ []) in
    let d = none_of r h (asks.Item ∷ asks.Visible ∷ []) in
    λ i. only (a i) r.key.a1 ++ only (b i) r.r1 ++ only (d i && nat_eq r.key.a1 1) r.key.a2
mentioned_none about.Name r h = ap (λ b. only b r.r1) (none_of r h (asks.Item ∷ []))
