use Rattle.asl_machine.proofs.Whole.{machine_whole}
use Rattle.asl_machine.proofs.laws.machines_are_well_formed.Goals as goal

pub returns : goal.returns
returns c = machine_whole
