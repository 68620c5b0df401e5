-- A line that is refused leaves the book as it was: each answer that changes it begins with `ok`.
use Rattle.std.proofs.Common.{◌≡◌, ℕ, zero, suc, true, false, List, [], ◌∷◌, Option, None, Some, refl, sym, ap, ◌∙◌, inl, inr}
use Rattle.std.proofs.lemmas.Bool.{true≢false}
use Rattle.std.specs.Prelude.{option_and_then, Result, Ok, Err}
use Rattle.serde_json.specs.Data as source
use Rattle.serde_json.specs.Read as source_text
use Rattle.json_tree.specs.Data.{Data, null, boolean, whole, text, list, fields}
use Rattle.json_tree.specs.Reading.{source_of, whole_of}
use Rattle.step_names.specs.Thread.{Thread}
use Rattle.step_names.specs.declared.step.StepName.{StepName}
use Rattle.book_log.specs.Log.{Log, world_of}
use Rattle.book_log.specs.Answers.{settle_answer, hold_answer, start_answer, step_answer, undo_answer, plan_answer}
use Rattle.book_log.specs.declared.begin.Begin.{Begin}
use Rattle.journaled_book.specs.Frame.{Frame}
use Rattle.book_log.specs.declared.entry.Entry.{Entry}
use Rattle.attr_values.specs.declared.fault.ItemFault.{ItemFault}
use Rattle.attr_values.specs.declared.key.KeySchema.{KeySchema}
use Rattle.item_store.specs.Table.{Table}
use Rattle.book_log.specs.declared.refusal.Refusal.{Refusal}
use Rattle.book_log.specs.declared.moved.Moved.{Moved}
use Rattle.journaled_book.specs.declared.fault.EntryFault.{EntryFault}
use Rattle.command_lines.specs.Grammar as command_view
use Rattle.command_lines.specs.Grammar.{CommandView, command_of}
use Rattle.operator_line.specs.Answers.{AnswersUnchanged, AnswersAppended, OfWhole, OfSource, AnswersBegin, AnswersItems, AnswersDefine, AnswersStarted, RepliesStep, RepliesUndo, AnswersPlan, RepliesRollback, RepliesSettle, RepliesHold, Turn, took, skipped, turn_steps, DrivesAtMost, drive_reply, AnswersDrive, AnswersWork, AnswersShow, AnswersOpen, AnswersClosed, AnswersView, AnswersText, AnswersLine}
use Rattle.operator_line.specs.LineLaws.{is_refusal}

-- what changes nothing where it is refused
abbrev Unchanging : (List ℕ → Option Log → Type 0) → Option Log → Type 0
Unchanging Answer before = (reply : List ℕ) (after : Option Log) → Answer reply after → is_refusal reply ≡ true → after ≡ before

-- what tells no refusal
accepts : (told : List ℕ) (book before : Option Log) → is_refusal told ≡ false → Unchanging (AnswersUnchanged told book) before
accepts told book before ok reply after h refused = absurd (true≢false (sym refused ∙ ap is_refusal h.0 ∙ ok))

-- what tells none where it is entered, or the journal's
enters : (told : List ℕ) (book before : Option Log) → is_refusal told ≡ false → Unchanging (AnswersAppended told book before) before
enters told book before ok reply after (inl h) refused = accepts told book before ok reply after h refused
enters told book before ok reply after (inr h) refused = h.1

keeps : (told : List ℕ) (before : Option Log) → Unchanging (AnswersUnchanged told before) before
keeps told before reply after h refused = h.1

of_whole : (d : Option Data) (Refused : List ℕ → List ℕ → Option Log → Type 0) (Read : Data → List ℕ → Option Log → Type 0) (before : Option Log)
    → ((told : List ℕ) → Unchanging (Refused told) before) → ((e : Data) → Unchanging (Read e) before)
    → Unchanging (λ reply after. OfWhole d (λ told. Refused told reply after) (λ e. Read e reply after)) before
of_whole None Refused Read before r h = r _
of_whole (Some d) Refused Read before r h = h d

of_source : (d : Option source.Data) (Refused : List ℕ → List ℕ → Option Log → Type 0) (Read : Data → List ℕ → Option Log → Type 0) (before : Option Log)
    → ((told : List ℕ) → Unchanging (Refused told) before) → ((e : Data) → Unchanging (Read e) before)
    → Unchanging (λ reply after. OfSource d (λ told. Refused told reply after) (λ e. Read e reply after)) before
of_source None Refused Read before r h = r _
of_source (Some d) Refused Read before r h = of_whole (whole_of d) Refused Read before r h

begin_keeps : (begin : Begin) (r : Result Table ItemFault) → Unchanging (AnswersBegin begin r) None
begin_keeps begin (Ok items) = enters _ _ _ refl
begin_keeps begin (Err fault) = keeps _ _

items_keep : (name : List ℕ) (schema : KeySchema) (d : Data) → Unchanging (AnswersItems name schema d) None
items_keep name schema (list ds) = begin_keeps _ _
items_keep name schema null = keeps _ _
items_keep name schema (boolean b) = keeps _ _
items_keep name schema (whole z) = keeps _ _
items_keep name schema (text s) = keeps _ _
items_keep name schema (fields ms) = keeps _ _

define_keeps : (log : Log) (name : List ℕ) (d : Option source.Data) → Unchanging (AnswersDefine log name d) (Some log)
define_keeps log name None reply after h refused = h.1
define_keeps log name (Some d) reply after (inl h) refused = enters _ _ _ refl reply after h.told refused
define_keeps log name (Some d) reply after (inr h) refused = keeps _ _ reply after h.told refused

started_keeps : (log : Log) (entry : Entry) (answer : Result StepName Refusal) → Unchanging (AnswersStarted log entry answer) (Some log)
started_keeps log entry (Ok name) = enters _ _ _ refl
started_keeps log entry (Err refusal) = keeps _ _

step_keeps : (log : Log) (answer : Result Moved Refusal) → Unchanging (RepliesStep log answer) (Some log)
step_keeps log (Ok m) = enters _ _ _ refl
step_keeps log (Err refusal) = keeps _ _

undo_keeps : (log : Log) (name : StepName) (answer : Result StepName Refusal) → Unchanging (RepliesUndo log name answer) (Some log)
undo_keeps log name (Ok undone) = enters _ _ _ refl
undo_keeps log name (Err refusal) = keeps _ _

plan_keeps : (log : Log) (answer : Result (List StepName) Refusal) → Unchanging (AnswersPlan log answer) (Some log)
plan_keeps log (Ok names) = accepts _ _ _ refl
plan_keeps log (Err refusal) = keeps _ _

rollback_keeps : (log : Log) (name : StepName) (answer : Result (List StepName) Refusal) → Unchanging (RepliesRollback log name answer) (Some log)
rollback_keeps log name (Ok names) = enters _ _ _ refl
rollback_keeps log name (Err refusal) = keeps _ _

settle_keeps : (log : Log) (answer : Result (Unit {0}) Refusal) → Unchanging (RepliesSettle log answer) (Some log)
settle_keeps log (Ok done) = enters _ _ _ refl
settle_keeps log (Err refusal) = keeps _ _

hold_keeps : (log : Log) (name : StepName) (answer : Result ℕ Refusal) → Unchanging (RepliesHold log name answer) (Some log)
hold_keeps log name (Ok count) = enters _ _ _ refl
hold_keeps log name (Err refusal) = keeps _ _

drive_told : (log last : Log) (count : ℕ) (passed : List Thread) (turns : List Turn) (stop : Option EntryFault) → DrivesAtMost count passed log turns stop last
    → Unchanging (AnswersUnchanged (drive_reply (turn_steps turns) stop) (Some last)) (Some log)
drive_told log last count passed [] None d = accepts _ _ _ refl
drive_told log last zero passed [] (Some fault) d = absurd d
drive_told log last (suc count) passed [] (Some fault) d = λ reply after h refused. h.1 ∙ ap Some d.1
drive_told log last count passed (took name ∷ turns) stop d = accepts _ _ _ refl
drive_told log last zero passed (skipped t ∷ turns) stop d = absurd d
drive_told log last (suc count) passed (skipped t ∷ turns) stop d = drive_told log last (suc count) (t ∷ passed) turns stop d.2

drive_keeps : (log : Log) (count : ℕ) → Unchanging (AnswersDrive log count) (Some log)
drive_keeps log count reply after h refused = drive_told log h.last count [] h.turns h.stop h.drives reply after h.told refused

work_keeps : (log : Log) (moves : ℕ) → Unchanging (AnswersWork log moves) (Some log)
work_keeps log moves reply after (inl h) refused = accepts _ _ _ refl reply after h.told refused
work_keeps log moves reply after (inr h) refused = keeps _ _ reply after h.told refused

show_keeps : (log : Log) (found : Option Frame) → Unchanging (AnswersShow log found) (Some log)
show_keeps log None = keeps _ _
show_keeps log (Some f) = keeps _ _

open_keeps : (log : Log) (command : CommandView) → Unchanging (AnswersOpen log command) (Some log)
open_keeps log (command_view.table name schema json) = keeps _ _
open_keeps log (command_view.define name json) = define_keeps log name (source_text.read json)
open_keeps log (command_view.start exec machine json) =
    of_source (source_of json) _ _ (Some log) (λ told. keeps told (Some log)) (λ d reply after h. started_keeps log _ (start_answer log exec machine) reply after h.told)
open_keeps log (command_view.step thread) = step_keeps log (step_answer log thread)
open_keeps log (command_view.undo name) = undo_keeps log name (undo_answer log name)
open_keeps log (command_view.plan name) = plan_keeps log (plan_answer log name)
open_keeps log (command_view.rollback name) = rollback_keeps log name (plan_answer log name)
open_keeps log command_view.settle = settle_keeps log (settle_answer log)
open_keeps log (command_view.hold name) = hold_keeps log name (hold_answer log name)
open_keeps log (command_view.drive count) = drive_keeps log count
open_keeps log (command_view.work workers moves) = work_keeps log moves
open_keeps log (command_view.show thread) = show_keeps log ((world_of log).frames thread)
open_keeps log command_view.items = λ reply after h. accepts _ _ _ refl reply after h.told
open_keeps log command_view.history = keeps _ _
open_keeps log command_view.held = keeps _ _

closed_keeps : (command : CommandView) → Unchanging (AnswersClosed command) None
closed_keeps (command_view.table name schema json) =
    of_source (source_of json) _ _ None (λ told. keeps told None) (λ d. items_keep name schema d)
closed_keeps (command_view.define name json) = keeps _ _
closed_keeps (command_view.start exec machine json) = keeps _ _
closed_keeps (command_view.step thread) = keeps _ _
closed_keeps (command_view.undo name) = keeps _ _
closed_keeps (command_view.plan name) = keeps _ _
closed_keeps (command_view.rollback name) = keeps _ _
closed_keeps command_view.settle = keeps _ _
closed_keeps (command_view.hold name) = keeps _ _
closed_keeps (command_view.drive count) = keeps _ _
closed_keeps (command_view.work workers moves) = keeps _ _
closed_keeps (command_view.show thread) = keeps _ _
closed_keeps command_view.items = keeps _ _
closed_keeps command_view.history = keeps _ _
closed_keeps command_view.held = keeps _ _

command_keeps : (before : Option Log) (command : Option CommandView) → Unchanging (AnswersView before command) before
command_keeps before None = keeps _ _
command_keeps None (Some command) = closed_keeps command
command_keeps (Some log) (Some command) = open_keeps log command

text_keeps : (before : Option Log) (line : Option (List ℕ)) → Unchanging (AnswersText before line) before
text_keeps before line reply after (inl h) refused = h.1
text_keeps before line reply after (inr h) refused = command_keeps before (option_and_then command_of line) reply after h refused

pub refused_changes_nothing : (before after : Option Log) (line : Option (List ℕ)) (reply : List ℕ) → AnswersLine before line reply after → is_refusal reply ≡ true → after ≡ before
refused_changes_nothing before after None reply h refused = text_keeps before None reply after h refused
refused_changes_nothing before after (Some []) reply h refused = h.1
refused_changes_nothing before after (Some (b ∷ line)) reply h refused = text_keeps before (Some (b ∷ line)) reply after h refused
