use Rattle.std.proofs.Common.{Result, Ok, Err}
use Rattle.std.specs.Prelude.{IfErr}
use Rattle.serde_json.specs.Data.{Data as Source}
use Rattle.serde_json.specs.View.{view}
use Rattle.asl_machine.proofs.Refused.{definition_refused}
use Rattle.asl_tree.specs.Definition.{Definition}
use Rattle.asl_machine.specs.Faults.{DefinitionFault}
use Rattle.asl_machine.specs.Profile.{DefinesNone}
use Rattle.asl_fields.specs.Refusal.{RefusesForFault}
use Rattle.asl_fields.specs.declared.fault.MachineFault.{MachineFault}
use Rattle.asl_fields.specs.declared.fault.MachineFault.TheVariants.{Missing, UnknownField, Unsupported, BadField, NoTarget, NextAndEnd, StatesAllPlace, TooDeep, Memory}
use Rattle.asl_machine.proofs.read.MachineReadMachine.read.Goals as goal

refuses : (d : Source) (e : MachineFault) → RefusesForFault e (DefinitionFault d e) → RefusesForFault e (DefinesNone d)
refuses d (Missing field) h = definition_refused d _ h
refuses d (UnknownField field) h = definition_refused d _ h
refuses d (Unsupported field) h = definition_refused d _ h
refuses d (BadField field) h = definition_refused d _ h
refuses d (NoTarget state) h = definition_refused d _ h
refuses d (NextAndEnd state) h = definition_refused d _ h
refuses d StatesAllPlace h = definition_refused d _ h
refuses d TooDeep h = definition_refused d _ h
refuses d Memory h = h

all_refuse : (d : Source) (r : Result Definition MachineFault) → IfErr r (λ e. RefusesForFault e (DefinitionFault d e)) → IfErr r (λ e. RefusesForFault e (DefinesNone d))
all_refuse d (Ok m) h = h
all_refuse d (Err e) h = refuses d e h

pub returns-clause-refused : goal.returns-clause-refused
returns-clause-refused c = all_refuse (view c.args.definition.now) c.read_definition.result c.read_definition.ensures.fault
