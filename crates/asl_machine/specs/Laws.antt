-- Laws of definitions.
use Rattle.std.specs.Prelude.{◌≡◌}
use Rattle.serde_json.specs.Data.{Data}
use Rattle.asl_tree.specs.Complete.{IsWellFormed}
use Rattle.asl_tree.specs.Definition.{Definition}
use Rattle.asl_machine.specs.Faults.{DefinitionFault}
use Rattle.asl_machine.specs.Profile.{Defines, DefinesNone}
use Rattle.asl_fields.specs.declared.fault.MachineFault.{MachineFault}

-- a definition is one machine at most
abbrev pub OneMachine : Type 0
OneMachine = (d : Data) (m n : Definition) → Defines d m → Defines d n → m ≡ n

-- where a fault stands, there is no machine
abbrev pub FaultyIsNone : Type 0
FaultyIsNone = (d : Data) (e : MachineFault) → DefinitionFault d e → DefinesNone d

-- a machine starts at a state that it has, and stays inside
abbrev pub DefinedAreWellFormed : Type 0
DefinedAreWellFormed = (d : Data) (m : Definition) → Defines d m → IsWellFormed m
