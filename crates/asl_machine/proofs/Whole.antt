-- A definition's machine is whole.
use Rattle.std.proofs.Common.{◌≡◌, ℕ, List, Option, Some, None, option_map, refl}
use Rattle.serde_json.specs.Data.{Data as Source, Members}
use Rattle.asl_fields.specs.declared.fault.MachineFault.TheVariants.{NoTarget}
use Rattle.asl_fields.specs.declared.fields.Place.{Place}
use Rattle.asl_fields.specs.declared.fields.Place.TheVariants as at
use Rattle.asl_tree.proofs.Inside.{complete_by}
use Rattle.asl_tree.specs.Complete.{IsWellFormed}
use Rattle.asl_tree.specs.Definition.{StateTree, Definition}
use Rattle.asl_tree.specs.Targets.{if_missing, name_or_else, first_missing}
use Rattle.asl_machine.specs.Profile.{MachineOver, StatesWithin, Defines}

no_fault : (o : Option (List ℕ)) → option_map NoTarget o ≡ None → None ≡ o
no_fault None h = refl
no_fault (Some name) h = cc h

pub complete_over : (S : Members → List (List ℕ × StateTree) → Type 0) (place : Place) (d : Source) (m : Definition) → MachineOver S place d m → IsWellFormed m
complete_over S place d m is = complete_by m.start m.states (no_fault (name_or_else (if_missing m.states m.start) (first_missing m.states m.states)) is.3)

pub machine_whole : (d : Source) (m : Definition) → Defines d m → IsWellFormed m
machine_whole d m is = complete_over (StatesWithin 32) at.Top d m is
