-- The questions as values, and when two meanings are equal.
use Rattle.std.specs.Prelude.{◌≡◌, ℕ, ◌^◌, Bool, true, ◌&&◌, List, [], ◌∷◌, nat_lt}
use Rattle.host.specs.Meaning.{Meaning}
use Rattle.host.specs.declared.questions.Question.{Question}
use Rattle.host.specs.declared.questions.Question.TheVariants as question
use Rattle.host.specs.declared.questions.Answer.{Answer}
use Rattle.host.specs.declared.questions.Answer.TheVariants as reply

-- what a host of that meaning answers
abbrev pub answer : Meaning → Question → Answer
answer m (question.Form t) = reply.Form (m.form t)
answer m (question.Own t p) = reply.Number (m.own t p)
answer m (question.Stray t p) = reply.Number (m.stray t p)
answer m (question.Item i) = reply.Item (m.item i.kind i.container i.place)
answer m (question.Bound t p) = reply.Number (m.bound t p)
answer m (question.Supers t p) = reply.Number (m.supers t p)
answer m (question.Visible i) = reply.Mark (m.visible i.kind i.container i.place)
answer m (question.Skips t) = reply.Marks (m.skips t).0 (m.skips t).1
answer m (question.Applies a) = reply.Mark (m.applies a.class a.container a.place a.origin a.ty a.wrap a.mode)
answer m (question.Source a) = reply.Number (m.source a.tr a.place a.ty a.wrap a.mode)

-- the numbers in a question
abbrev pub numbers : Question → List ℕ
numbers (question.Form t) = t ∷ []
numbers (question.Own t p) = t ∷ p ∷ []
numbers (question.Stray t p) = t ∷ p ∷ []
numbers (question.Item i) = i.container ∷ i.place ∷ []
numbers (question.Bound t p) = t ∷ p ∷ []
numbers (question.Supers t p) = t ∷ p ∷ []
numbers (question.Visible i) = i.container ∷ i.place ∷ []
numbers (question.Skips t) = t ∷ []
numbers (question.Applies a) = a.container ∷ a.place ∷ a.origin ∷ a.ty ∷ []
numbers (question.Source a) = a.tr ∷ a.place ∷ a.ty ∷ []

abbrev pub small : List ℕ → Bool
small [] = true
small (n ∷ ns) = nat_lt n (2 ^ 32) && small ns

-- whether it can be asked: its numbers have 32 bits
abbrev pub askable : Question → Bool
askable q = small (numbers q)

-- Equal meanings: every question that can be asked gets equal answers.
abbrev pub Alike : Meaning → Meaning → Type 0
Alike m n = (q : Question) → askable q ≡ true → answer m q ≡ answer n q
