-- How a run fails: what is told of it, and the program's status.
use Rattle.std.specs.Prelude.{◌≡◌, ℕ, List, [], ◌∷◌, ◌++◌, Option, Result, Ok, Err, codes}
use Rattle.std.specs.Fmt.{decimal}
use Rattle.std.specs.Io.KnownBytes.{Appends, Keeps}
use Rattle.book_journal.specs.declared.fault.JournalFault.{JournalFault}
use Rattle.book_journal.specs.declared.fault.JournalFault.TheVariants as journal_fault
use Rattle.operator_line.specs.OpenFault.{OpenFault}
use Rattle.operator_line.specs.OpenFault.TheVariants as open_fault
use Rattle.operator_line.specs.declared.serving.ServeFault.{ServeFault}
use Rattle.operator_line.specs.declared.serving.ServeFault.TheVariants as serve_fault
use Rattle.rollback_run.specs.declared.fault.ExitFault.{ExitFault}
use Rattle.rollback_run.specs.declared.fault.ExitFault.TheVariants.{Damaged, Gap, Store, Input, Output, Memory}

-- ---- which fault it is

abbrev pub of_journal : JournalFault → ExitFault
of_journal (journal_fault.Store cause) = Store
of_journal (journal_fault.Gap position) = Gap position
of_journal journal_fault.Memory = Memory

abbrev pub of_open : OpenFault → ExitFault
of_open (open_fault.Damaged line) = Damaged line
of_open (open_fault.Journal fault) = of_journal fault
of_open open_fault.Memory = Memory

abbrev pub of_serve : ServeFault → ExitFault
of_serve serve_fault.Read = Input
of_serve serve_fault.Write = Output
of_serve serve_fault.Journal = Store
of_serve serve_fault.Memory = Memory

abbrev pub served : Result Unit ServeFault → Result Unit ExitFault
served (Ok done) = Ok done
served (Err fault) = Err (of_serve fault)

-- ---- how it is told

abbrev pub exit_text : ExitFault → List ℕ
exit_text (Damaged line) = codes "rollback: damaged " ++ (decimal line ++ 10 ∷ [])
exit_text (Gap position) = codes "rollback: gap " ++ (decimal position ++ 10 ∷ [])
exit_text Store = codes "rollback: store\n"
exit_text Input = codes "rollback: input\n"
exit_text Output = codes "rollback: output\n"
exit_text Memory = codes "rollback: memory\n"

-- the text is written, or a beginning of it
pub record IsBegun (text : List ℕ) (old new : Option (List ℕ)) : Type 0 where
  pub written : List ℕ
  pub unwritten : List ℕ
  pub parted : text ≡ written ++ unwritten
  pub appended : Appends old new written

-- an outcome that is a fault is told, perhaps not to its end, and nothing else is
abbrev pub IsExitFaultSaid : Result Unit ExitFault → Option (List ℕ) → Option (List ℕ) → Type 0
IsExitFaultSaid (Ok done) old new = Keeps old new
IsExitFaultSaid (Err fault) old new = IsBegun (exit_text fault) old new

abbrev pub usage_text : List ℕ
usage_text = codes "usage: rollback [--journal FILE | --check FILE]\n"

-- 3 where the journal gives no book, 4 where the streams or memory fail
abbrev pub fault_status : ExitFault → ℕ
fault_status (Damaged line) = 3
fault_status (Gap position) = 3
fault_status Store = 3
fault_status Input = 4
fault_status Output = 4
fault_status Memory = 4

abbrev pub outcome_status : Result Unit ExitFault → ℕ
outcome_status (Ok done) = 0
outcome_status (Err fault) = fault_status fault
