-- What is asked of a search, but for the traits in scope.
use Rattle.std.specs.Prelude.{ℕ, List}
use Rattle.host.specs.Meaning.{Meaning}
use Rattle.method_resolution.specs.Types.{CandidateStep, Form, Mode, Settings}

pub record Question : Type 0 where
  pub meaning : Meaning
  pub settings : Settings
  pub steps : List CandidateStep
  pub name : ℕ
  pub mode : Mode

-- The traits in scope, each once, in order of arrival.
abbrev pub Scope : Type 0
Scope = List ℕ

-- the form of a step's type
abbrev pub form_of : Question → CandidateStep → Form
form_of q step = (q.meaning.form step.self_ty).form
