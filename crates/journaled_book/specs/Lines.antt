-- The lines of a session's book: the table's line, and then one line for each entry of its log.
use Rattle.std.specs.Prelude.{◌≡◌, ℕ, List, [], ◌∷◌, Option, None, Some, IsOk}
use Rattle.serde_json.specs.Data as source
use Rattle.serde_json.specs.Read as source_text
use Rattle.serde_json.specs.View.{view}
use Rattle.json_tree.specs.Data.{list, items_of}
use Rattle.json_tree.specs.Reading.{read_json}
use Rattle.json_tree.specs.View.{data_of}
use Rattle.json_tree.specs.declared.tree.Json.{Json}
use Rattle.asl_tree.specs.Definition.{Definition}
use Rattle.book_log.specs.Profile.{Defines}
use Rattle.step_names.specs.Thread.{Thread}
use Rattle.book_log.specs.Beginning.{begun_table}
use Rattle.book_log.specs.Legal.{IsAccepted}
use Rattle.book_log.specs.Log.{Log, appended}
use Rattle.book_log.specs.declared.begin.Begin.{Begin}
use Rattle.book_log.specs.declared.entry.Entry.{Entry}
use Rattle.book_log.specs.declared.entry.Entry.TheVariants.{Define, Start, Step as Stepped, Undo, Rollback, Settle, Hold}
use Rattle.command_lines.specs.Grammar as command_view
use Rattle.command_lines.specs.Grammar.{command_of}
use Rattle.book_events.specs.declared.change.Change.{Change}
use Rattle.book_events.specs.declared.change.Change.TheVariants as change

-- the line is a table's, with these first items
pub record IsBeginLine (line : List ℕ) (begin : Begin) : Type 0 where
  pub json : List ℕ
  pub is_table : command_of line ≡ Some (command_view.table begin.table begin.schema json)
  pub items : read_json json ≡ Some (list (items_of begin.items))

-- the line defines this machine under this name
pub record IsDefineLine (line name : List ℕ) (machine : Definition) : Type 0 where
  pub json : List ℕ
  pub is_define : command_of line ≡ Some (command_view.define name json)
  pub definition : source.Data
  pub is_read : source_text.read json ≡ Some definition
  pub defines : Defines definition machine

-- the line starts this execution of this machine with this input
pub record IsStartLine (line : List ℕ) (exec : Thread) (machine : List ℕ) (input : Json) : Type 0 where
  pub json : List ℕ
  pub is_start : command_of line ≡ Some (command_view.start exec machine json)
  pub is_read : read_json json ≡ Some (data_of input)

-- read as a command, the line is this entry
abbrev pub IsLineOf : List ℕ → Entry → Type 0
IsLineOf line (Define name machine) = IsDefineLine line name machine
IsLineOf line (Start exec machine input) = IsStartLine line exec machine input
IsLineOf line (Stepped name kind) = command_of line ≡ Some (command_view.step name.thread)
IsLineOf line (Undo name) = command_of line ≡ Some (command_view.undo name)
IsLineOf line (Rollback name undone) = command_of line ≡ Some (command_view.rollback name)
IsLineOf line Settle = command_of line ≡ Some command_view.settle
IsLineOf line (Hold name count) = command_of line ≡ Some (command_view.hold name)

-- the line defines what this JSON is under this name
abbrev pub SaysDefine : List ℕ → source.Data → List ℕ → Type 0
SaysDefine name d line = (json : List ℕ) × (command_of line ≡ Some (command_view.define name json)) × (source_text.read json ≡ Some d)

-- read as a command, the line is this change
abbrev pub SaysChange : Change → List ℕ → Type 0
SaysChange (change.Define name definition) line = SaysDefine name.now (view definition.now) line
SaysChange (change.Start exec machine input) line = IsStartLine line exec.now machine.now input
SaysChange (change.Step thread) line = command_of line ≡ Some (command_view.step thread.now)
SaysChange (change.Undo step) line = command_of line ≡ Some (command_view.undo step.now)
SaysChange (change.Rollback step) line = command_of line ≡ Some (command_view.rollback step.now)
SaysChange change.Settle line = command_of line ≡ Some command_view.settle
SaysChange (change.Hold step) line = command_of line ≡ Some (command_view.hold step.now)

-- one line for each entry
abbrev pub AreEntryLines : List (List ℕ) → List Entry → Type 0
AreEntryLines [] [] = Unit {0}
AreEntryLines [] (entry ∷ entries) = ⊥
AreEntryLines (line ∷ lines) [] = ⊥
AreEntryLines (line ∷ lines) (entry ∷ entries) = IsLineOf line entry × AreEntryLines lines entries

-- no line where there is no book yet; else the table's, and those of its log
abbrev pub AreLinesOf : List (List ℕ) → Option Log → Type 0
AreLinesOf [] None = Unit {0}
AreLinesOf [] (Some log) = ⊥
AreLinesOf (line ∷ lines) None = ⊥
AreLinesOf (line ∷ lines) (Some log) = IsBeginLine line log.begin × AreEntryLines lines log.entries

-- No entry that the line says is accepted then: the line isn't what its place needs, or it is refused for another cause than memory.
abbrev pub IsDamaged : Option Log → List ℕ → Type 0
IsDamaged None line = (begin : Begin) → IsBeginLine line begin → IsOk (begun_table begin) → ⊥
IsDamaged (Some log) line = (entry : Entry) → IsLineOf line entry → IsAccepted log entry → ⊥

-- the line begins this log
pub record Begins (line : List ℕ) (log : Log) : Type 0 where
  pub is_line : IsBeginLine line log.begin
  pub is_table : IsOk (begun_table log.begin)
  pub empty : log.entries ≡ []

-- the entry that the line says is accepted
pub record Adds (before : Log) (line : List ℕ) (after : Log) : Type 0 where
  pub entry : Entry
  pub is_line : IsLineOf line entry
  pub is_accepted : IsAccepted before entry
  pub after_is : after ≡ appended before entry

-- the log after one more line
abbrev pub Follows : Option Log → List ℕ → Log → Type 0
Follows None line after = Begins line after
Follows (Some before) line after = Adds before line after
