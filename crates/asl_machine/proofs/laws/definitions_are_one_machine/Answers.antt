use Rattle.asl_machine.proofs.OneMachine.{one_machine}
use Rattle.asl_machine.proofs.laws.definitions_are_one_machine.Goals as goal

pub returns : goal.returns
returns c = one_machine
