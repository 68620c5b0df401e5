use Rattle.depends.proofs.Consequences.{runs_are_seen}
use Rattle.depends.proofs.Reversible as law
use Rattle.depends.proofs.Named.{steps_have_names}
use Rattle.depends.proofs.laws.steps_are_reversible.Goals as goal

pub returns : goal.returns
returns c = record { lawful = law.steps_are_reversible; names = steps_have_names; runs = runs_are_seen }
