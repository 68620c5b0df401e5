-- How the answering of a question ends.
use Rattle.std.specs.Prelude.{◌≡◌, ℕ, List, Bool, true, false, Option, Result, Ok, Err}
use Rattle.std.specs.Io.KnownBytes.{Keeps}
use Rattle.rollback_run.specs.Faults.{fault_status, exit_text, IsBegun}
use Rattle.rollback_run.specs.declared.fault.ExitFault.{ExitFault}

-- the program's status: 1 where there is no answer
abbrev pub status_of : Result Bool ExitFault → ℕ
status_of (Ok true) = 0
status_of (Ok false) = 1
status_of (Err fault) = fault_status fault

-- a fault is told as the other program tells it, and nothing else is
abbrev pub IsAskFaultSaid : Result Bool ExitFault → Option (List ℕ) → Option (List ℕ) → Type 0
IsAskFaultSaid (Ok found) old new = Keeps old new
IsAskFaultSaid (Err fault) old new = IsBegun (exit_text fault) old new
