-- Logs whose every entry was accepted at its place, with the reply that stands in it.
use Rattle.std.specs.Prelude.{◌≡◌, ◌≤◌, List, [], ◌∷◌, None, Ok, false}
use Rattle.json_tree.specs.Data.{depth, most_levels}
use Rattle.json_tree.specs.View.{data_of}
use Rattle.item_store.specs.Table.{Table}
use Rattle.asl_machine.specs.TreeLevels.{IsWellFormedThroughout}
use Rattle.depends.specs.Steps.{start_name}
use Rattle.book_log.specs.Answers.{start_answer, step_answer, undo_answer, plan_answer, settle_answer, hold_answer, is_full_for_define}
use Rattle.book_log.specs.Beginning.{begun_table}
use Rattle.book_log.specs.Log.{Log, appended, machine_of}
use Rattle.book_log.specs.declared.entry.Entry.{Entry}
use Rattle.book_log.specs.declared.entry.Entry.TheVariants.{Define, Start, Step as Stepped, Undo, Rollback, Settle, Hold}

-- the command is accepted after this log, with this reply; an execution has no branches when it starts, and its input nests at most
-- 127 deep
abbrev pub IsAccepted : Log → Entry → Type 0
IsAccepted log (Define name machine) = (machine_of log name ≡ None) × (is_full_for_define log ≡ false) × IsWellFormedThroughout machine
IsAccepted log (Start exec machine input) = (start_answer log exec machine ≡ Ok (start_name exec.exec)) × (exec.path ≡ []) × (depth (data_of input) ≤ most_levels)
IsAccepted log (Stepped name kind) = step_answer log name.thread ≡ Ok (record { name = name; kind = kind })
IsAccepted log (Undo name) = undo_answer log name ≡ Ok name
IsAccepted log (Rollback name undone) = plan_answer log name ≡ Ok undone
IsAccepted log Settle = settle_answer log ≡ Ok tt
IsAccepted log (Hold name count) = hold_answer log name ≡ Ok count

-- each entry after these is accepted at its place
abbrev pub GoesOnLegally : Log → List Entry → Type 0
GoesOnLegally before [] = Unit {0}
GoesOnLegally before (e ∷ entries) = IsAccepted before e × GoesOnLegally (appended before e) entries

-- the beginning is a table's, and each entry is accepted at its place
unfoldable pub IsLegal : Log → Type 0
IsLegal log = ((items : Table) × (begun_table log.begin ≡ Ok items)) × GoesOnLegally (record { begin = log.begin; entries = [] }) log.entries
