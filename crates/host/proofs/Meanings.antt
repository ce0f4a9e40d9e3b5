-- Lawful meanings that answer alike whatever can be asked are equal.
use Rattle.std.proofs.Common.{◌≡◌, ℕ, Bool, true, false, ◌⊎◌, None, Option, sym, ap, ◌∙◌, inl, inr}
use Rattle.std.proofs.lemmas.Bool.{cases_Bool}
use Rattle.host.specs.declared.forms.Item.{Item}
use Rattle.host.specs.declared.forms.TypeForm.{TypeForm}
use Rattle.host.specs.declared.questions.Question.{Question}
use Rattle.host.specs.declared.questions.Question.TheVariants as question
use Rattle.host.specs.declared.questions.Answer.{Answer}
use Rattle.host.specs.declared.questions.Answer.TheVariants as reply
use Rattle.host.specs.Meaning.{Meaning}
use Rattle.host.specs.Questions.{answer, askable, Alike}
use Rattle.host.specs.Law.{Lawful}

-- what is in an answer of each kind; the second argument stands for the other kinds
abbrev form_in : Answer → TypeForm → TypeForm
form_in (reply.Form f) d = f
form_in (reply.Number o) d = d
form_in (reply.Item i) d = d
form_in (reply.Mark b) d = d
form_in (reply.Marks a b) d = d

abbrev number_in : Answer → Option ℕ
number_in (reply.Form f) = None
number_in (reply.Number o) = o
number_in (reply.Item i) = None
number_in (reply.Mark b) = None
number_in (reply.Marks a b) = None

abbrev item_in : Answer → Option Item
item_in (reply.Form f) = None
item_in (reply.Number o) = None
item_in (reply.Item i) = i
item_in (reply.Mark b) = None
item_in (reply.Marks a b) = None

abbrev marks_in : Answer → Bool × Bool
marks_in (reply.Form f) = (false, false)
marks_in (reply.Number o) = (false, false)
marks_in (reply.Item i) = (false, false)
marks_in (reply.Mark b) = (b, b)
marks_in (reply.Marks a b) = (a, b)

module _ (m n : Meaning) (a : Lawful m) (b : Lawful n) (s : Alike m n) where
  same_answer : (q : Question) → answer m q ≡ answer n q
  same_answer q = step (cases_Bool (askable q))
    where
      step : (askable q ≡ true) ⊎ (askable q ≡ false) → answer m q ≡ answer n q
      step (inl e) = s q e
      step (inr e) = a.beyond q e ∙ sym (b.beyond q e)

  pub same_meaning : m ≡ n
  same_meaning = λ i. record {
    form = λ t. ap (λ r. form_in r (m.form t)) (same_answer (question.Form t)) i;
    own = λ t p. ap number_in (same_answer (question.Own t p)) i;
    stray = λ t p. ap number_in (same_answer (question.Stray t p)) i;
    item = λ k c p. ap item_in (same_answer (question.Item (record { kind = k; container = c; place = p }))) i;
    bound = λ t p. ap number_in (same_answer (question.Bound t p)) i;
    supers = λ t p. ap number_in (same_answer (question.Supers t p)) i;
    visible = λ k c p. ap (λ r. (marks_in r).0) (same_answer (question.Visible (record { kind = k; container = c; place = p }))) i;
    skips = λ t. ap marks_in (same_answer (question.Skips t)) i;
    applies = λ k c p o t w d. ap (λ r. (marks_in r).0) (same_answer (question.Applies (record { class = k; container = c; place = p; origin = o; ty = t; wrap = w; mode = d }))) i;
    source = λ c p t w d. ap number_in (same_answer (question.Source (record { tr = c; place = p; ty = t; wrap = w; mode = d }))) i;
  }
