use Rattle.asl_machine.proofs.Levels.{defined_whole}
use Rattle.asl_machine.proofs.laws.levels_are_well_formed.Goals as goal

pub returns : goal.returns
returns c = defined_whole
