use Rattle.asl_machine.proofs.Refused.{definition_refused}
use Rattle.asl_machine.proofs.laws.faulty_definitions_are_none.Goals as goal

pub returns : goal.returns
returns c = definition_refused
