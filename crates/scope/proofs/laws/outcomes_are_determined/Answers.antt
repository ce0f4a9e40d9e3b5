use Rattle.scope.proofs.Outcomes.{admit_determined, release_determined}
use Rattle.scope.proofs.laws.outcomes_are_determined.Goals as goal

pub returns : goal.returns
returns c = record { admit = admit_determined; release = release_determined }
