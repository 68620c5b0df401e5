-- What faults say of a definition. Want of memory says nothing of it.
use Rattle.std.specs.Prelude.{⊤}
use Rattle.asl_fields.specs.declared.fault.MachineFault.{MachineFault}
use Rattle.asl_fields.specs.declared.fault.MachineFault.TheVariants.{Missing, UnknownField, Unsupported, BadField, NoTarget, NextAndEnd, StatesAllPlace, TooDeep, Memory}

-- where memory isn't wanted, this holds
abbrev pub RefusesForFault : MachineFault → Type 0 → Type 0
RefusesForFault (Missing field) P = P
RefusesForFault (UnknownField field) P = P
RefusesForFault (Unsupported field) P = P
RefusesForFault (BadField field) P = P
RefusesForFault (NoTarget state) P = P
RefusesForFault (NextAndEnd state) P = P
RefusesForFault StatesAllPlace P = P
RefusesForFault TooDeep P = P
RefusesForFault Memory P = ⊤

-- a fault of the definition, and not want of memory, is named, and this holds
abbrev pub NamesMachineFault : MachineFault → Type 0 → Type 0
NamesMachineFault (Missing field) P = P
NamesMachineFault (UnknownField field) P = P
NamesMachineFault (Unsupported field) P = P
NamesMachineFault (BadField field) P = P
NamesMachineFault (NoTarget state) P = P
NamesMachineFault (NextAndEnd state) P = P
NamesMachineFault StatesAllPlace P = P
NamesMachineFault TooDeep P = P
NamesMachineFault Memory P = ⊥
