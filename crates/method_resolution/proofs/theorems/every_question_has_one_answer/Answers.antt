use Rattle.method_resolution.proofs.Answering.{one_answer}
use Rattle.method_resolution.proofs.theorems.every_question_has_one_answer.Goals as goal

pub returns : goal.returns
returns c = one_answer
