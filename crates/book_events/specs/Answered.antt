-- What a command is answered, and which entry it adds.
use Rattle.std.specs.Prelude.{◌≡◌, ◌≤◌, ◌⊎◌, ℕ, List, [], true, Result, Ok, Err}
use Rattle.json_tree.specs.Data.{depth, most_levels}
use Rattle.json_tree.specs.View.{data_of}
use Rattle.json_tree.specs.declared.tree.Json.{Json}
use Rattle.serde_json.specs.Data.{Data}
use Rattle.serde_json.specs.View.{view}
use Rattle.asl_tree.specs.Definition.{Definition}
use Rattle.asl_machine.specs.Profile.{Defines}
use Rattle.step_names.specs.Thread.{Thread}
use Rattle.step_names.specs.declared.step.StepName.{StepName}
use Rattle.book_log.specs.Answers.{IsDefineRefusal, HoldLacks, SettleLacks, hold_answer, plan_answer, remains, settle_answer, start_answer, step_answer, undo_answer}
use Rattle.book_log.specs.Log.{Log}
use Rattle.book_log.specs.declared.entry.Entry.{Entry}
use Rattle.book_log.specs.declared.entry.Entry.TheVariants.{Define, Start, Step as Stepped, Undo, Rollback, Settle, Hold}
use Rattle.book_log.specs.declared.moved.Moved.{Moved}
use Rattle.book_log.specs.declared.refusal.Refusal.{Refusal}
use Rattle.book_log.specs.declared.refusal.Refusal.TheVariants.{Memory}
use Rattle.book_events.specs.Planned.{IsMoveRefusal, OrMemory}
use Rattle.book_events.specs.declared.change.Change.{Change}
use Rattle.book_events.specs.declared.change.Change.TheVariants as change

abbrev pub IsDefineAnswered : Log → List ℕ → Data → Result Entry Refusal → Type 0
IsDefineAnswered log name d (Ok e) = (machine : Definition) × Defines d machine × (e ≡ Define name machine)
IsDefineAnswered log name d (Err e) = IsDefineRefusal log name d e

abbrev pub IsStartAnswered : Log → Thread → List ℕ → Json → Result Entry Refusal → Type 0
IsStartAnswered log exec machine input (Ok e) = (start_answer log exec machine ≡ Ok (record { thread = exec; no = 0 })) × (e ≡ Start exec machine input)
IsStartAnswered log exec machine input (Err e) = OrMemory (start_answer log exec machine) e

abbrev pub IsStepAnswered : Log → Thread → Result Entry Refusal → Type 0
IsStepAnswered log t (Ok e) = (moved : Moved) × (step_answer log t ≡ Ok moved) × (e ≡ Stepped moved.name moved.kind)
IsStepAnswered log t (Err e) = IsMoveRefusal log t e

-- of a step that doesn't remain, out of memory isn't answered
abbrev pub IsUndoAnswered : Log → StepName → Result Entry Refusal → Type 0
IsUndoAnswered log name (Ok e) = (undo_answer log name ≡ Ok name) × (e ≡ Undo name)
IsUndoAnswered log name (Err e) = ((e ≡ Memory) × (remains log name ≡ true)) ⊎ (undo_answer log name ≡ Err e)

abbrev pub IsRollbackAnswered : Log → StepName → Result Entry Refusal → Type 0
IsRollbackAnswered log name (Ok e) = (undone : List StepName) × (plan_answer log name ≡ Ok undone) × (e ≡ Rollback name undone)
IsRollbackAnswered log name (Err e) = OrMemory (plan_answer log name) e

abbrev pub IsSettleAnswered : Log → Result Entry Refusal → Type 0
IsSettleAnswered log (Ok e) = (settle_answer log ≡ Ok tt) × (e ≡ Settle)
IsSettleAnswered log (Err e) = OrMemory (settle_answer log) e ⊎ ((e ≡ Memory) × SettleLacks log)

abbrev pub IsHoldAnswered : Log → StepName → Result Entry Refusal → Type 0
IsHoldAnswered log name (Ok e) = (count : ℕ) × (hold_answer log name ≡ Ok count) × (e ≡ Hold name count)
IsHoldAnswered log name (Err e) = OrMemory (hold_answer log name) e ⊎ ((e ≡ Memory) × HoldLacks log name)

-- What a command is answered: the entry that it adds, which holds its reply, or why it is refused. A command is accepted if an entry is
-- its answer.
abbrev pub IsCommandAnswered : Log → Change → Result Entry Refusal → Type 0
IsCommandAnswered log (change.Define name d) answer = IsDefineAnswered log name.now (view d.now) answer
IsCommandAnswered log (change.Start exec machine input) answer = IsStartAnswered log exec.now machine.now input answer
IsCommandAnswered log (change.Step thread) answer = IsStepAnswered log thread.now answer
IsCommandAnswered log (change.Undo step) answer = IsUndoAnswered log step.now answer
IsCommandAnswered log (change.Rollback step) answer = IsRollbackAnswered log step.now answer
IsCommandAnswered log change.Settle answer = IsSettleAnswered log answer
IsCommandAnswered log (change.Hold step) answer = IsHoldAnswered log step.now answer

-- a step's entry
abbrev pub IsEntryOfStep : Entry → Type 0
IsEntryOfStep e = (moved : Moved) × (e ≡ Stepped moved.name moved.kind)

-- the entry of a hold of so many steps, and of a hold
abbrev pub HoldsSoMany : Entry → ℕ → Type 0
HoldsSoMany e count = (name : StepName) × (e ≡ Hold name count)

abbrev pub IsEntryOfHold : Entry → Type 0
IsEntryOfHold e = (count : ℕ) × HoldsSoMany e count

-- a start's execution has no branches, and its input nests at most 127 deep
abbrev pub IsProperChange : Change → Type 0
IsProperChange (change.Start exec machine input) = (exec.now.path ≡ []) × (depth (data_of input) ≤ most_levels)
IsProperChange _ = Unit {0}

-- the entry that this adds for which everything is made, or why the command is refused
abbrev pub entry_by : {M : Type 0} → (M → Entry) → Result M Refusal → Result Entry Refusal
entry_by entry (Ok m) = Ok (entry m)
entry_by entry (Err e) = Err e
