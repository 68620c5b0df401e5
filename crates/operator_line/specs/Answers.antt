-- What lines are answered, and what the book is afterwards. Open are refused memory and the journal's refusal of a line, which are
-- answered and change nothing, where a drive stops early because of them, and which fault of a definition is named, among those that it has.
use Rattle.std.specs.Prelude.{◌≡◌, ◌≤◌, ℕ, zero, suc, ◌⊎◌, List, [], ◌∷◌, ◌++◌, length, map, reverse, Bool, false, true, Option, None, Some, option_and_then, Result, Ok, Err, IsOk}
use Rattle.std.specs.List.{list_any}
use Rattle.std.specs.Ordering.{eq_by_cmp}
use Rattle.std.specs.declared.cmp.Ordering.TheVariants.{Less}
use Rattle.serde_json.specs.Data as source
use Rattle.serde_json.specs.Read as source_text
use Rattle.json_tree.specs.Data.{Data, Items, list, no_items, item}
use Rattle.json_tree.specs.Reading.{source_of, whole_of}
use Rattle.json_tree.specs.View.{data_of}
use Rattle.json_tree.specs.Written.{text_of}
use Rattle.json_tree.specs.declared.tree.Json.{Json}
use Rattle.attr_values.specs.Writing.{item_json}
use Rattle.attr_values.specs.declared.fault.ItemFault.{ItemFault}
use Rattle.attr_values.specs.declared.key.KeySchema.{KeySchema}
use Rattle.item_store.specs.Deciding.{ItemAttributes}
use Rattle.item_store.specs.Listing.{IsListing}
use Rattle.item_store.specs.Table.{Table}
use Rattle.journaled_book.specs.Definition.{Definition}
use Rattle.book_log.specs.Profile.{Defines as DefinesMachine}
use Rattle.journaled_book.specs.Frame.{Frame}
use Rattle.journaled_book.specs.FirstMove.{moves_freely}
use Rattle.step_names.specs.Order.{thread_cmp}
use Rattle.step_names.specs.Thread.{Thread, IsThread}
use Rattle.step_names.specs.Written.{step_text}
use Rattle.step_names.specs.declared.step.StepName.{StepName}
use Rattle.journaled_book.specs.Steps.{name_of}
use Rattle.book_log.specs.Answers.{settle_answer, hold_answer, IsDefineRefusal, start_answer, step_answer, undo_answer, plan_answer, names_of_facts, is_full_for_step}
use Rattle.book_log.specs.Beginning.{begun_table}
use Rattle.book_log.specs.Legal.{IsAccepted}
use Rattle.book_log.specs.Log.{Log, appended, left_of, remaining, world_of}
use Rattle.book_log.specs.declared.begin.Begin.{Begin}
use Rattle.book_log.specs.declared.entry.Entry.{Entry}
use Rattle.book_log.specs.declared.entry.Entry.TheVariants.{Define, Start, Step as Stepped, Undo, Rollback, Settle, Hold}
use Rattle.book_log.specs.declared.moved.Moved.{Moved}
use Rattle.book_log.specs.declared.refusal.Refusal.{Refusal}
use Rattle.book_log.specs.declared.refusal.Refusal.TheVariants.{Full, Held, Memory}
use Rattle.journaled_book.specs.declared.fault.EntryFault.{EntryFault}
use Rattle.journaled_book.specs.declared.fault.EntryFault.TheVariants as by
use Rattle.command_lines.specs.Grammar as command_view
use Rattle.command_lines.specs.Grammar.{CommandView, command_of}
use Rattle.reply_lines.specs.Replies.{done_reply, step_reply, moved_reply, count_reply, list_reply, names_reply, item_fault_reply, frame_reply, refused, refused_by, refusal_reply, memory_reply, no_journal, bad_json, bad_beginning, table_taken, no_table, bad_line}

-- this is answered, and this is the book then: such is the reply, and the book afterwards
abbrev pub AnswersUnchanged : List ℕ → Option Log → List ℕ → Option Log → Type 0
AnswersUnchanged told book reply after = (reply ≡ told) × (after ≡ book)

-- what is answered if the journal refuses a line
abbrev pub journal_reply : List ℕ
journal_reply = refused no_journal

-- This is answered, and this is the book then; or the journal refuses the line, and the book is the one from before.
abbrev pub AnswersAppended : List ℕ → Option Log → Option Log → List ℕ → Option Log → Type 0
AnswersAppended told book before reply after = AnswersUnchanged told book reply after ⊎ AnswersUnchanged journal_reply before reply after

-- ---- JSON of a line

-- a value whose numbers are whole, or what is answered if the text is none
abbrev pub OfWhole : Option Data → (List ℕ → Type 0) → (Data → Type 0) → Type 0
OfWhole None Refused Read = Refused (refused_by bad_json 2)
OfWhole (Some d) Refused Read = Read d

abbrev pub OfSource : Option source.Data → (List ℕ → Type 0) → (Data → Type 0) → Type 0
OfSource None Refused Read = Refused (refused_by bad_json 1)
OfSource (Some d) Refused Read = OfWhole (whole_of d) Refused Read

abbrev pub OfJson : List ℕ → (List ℕ → Type 0) → (Data → Type 0) → Type 0
OfJson json Refused Read = OfSource (source_of json) Refused Read

-- ---- each command

abbrev pub values_in : Items → List Data
values_in no_items = []
values_in (item d ds) = d ∷ values_in ds

-- the table begins with its items, or is refused for the first that is none
abbrev pub AnswersBegin : Begin → Result Table ItemFault → List ℕ → Option Log → Type 0
AnswersBegin begin (Ok items) = AnswersAppended done_reply (Some (record { begin = begin; entries = [] })) None
AnswersBegin begin (Err fault) = AnswersUnchanged (item_fault_reply fault) None

abbrev pub AnswersBeginning : Begin → List ℕ → Option Log → Type 0
AnswersBeginning begin = AnswersBegin begin (begun_table begin)

-- the items are a list
abbrev pub AnswersItems : List ℕ → KeySchema → Data → List ℕ → Option Log → Type 0
AnswersItems name schema (list ds) = AnswersBeginning (record { table = name; schema = schema; items = values_in ds })
AnswersItems name schema _ = AnswersUnchanged (refused_by bad_beginning 1) None

abbrev pub AnswersTable : List ℕ → KeySchema → List ℕ → List ℕ → Option Log → Type 0
AnswersTable name schema json reply after =
    OfJson json (λ told. AnswersUnchanged told None reply after) (λ d. AnswersItems name schema d reply after)

-- a machine is defined where its name is free, where it is one, and where there is room; else it is refused for what stands
pub record RepliesDefine (log : Log) (name : List ℕ) (d : source.Data) (reply : List ℕ) (after : Option Log) : Type 0 where
  pub machine : Definition
  pub is_one : DefinesMachine d machine
  pub is_accepted : IsAccepted log (Define name machine)
  pub told : AnswersAppended done_reply (Some (appended log (Define name machine))) (Some log) reply after

pub record RepliesDefineRefusal (log : Log) (name : List ℕ) (d : source.Data) (reply : List ℕ) (after : Option Log) : Type 0 where
  pub refusal : Refusal
  pub stands : IsDefineRefusal log name d refusal
  pub told : AnswersUnchanged (refusal_reply refusal) (Some log) reply after

abbrev pub AnswersDefine : Log → List ℕ → Option source.Data → List ℕ → Option Log → Type 0
AnswersDefine log name None reply after = AnswersUnchanged (refused_by bad_json 1) (Some log) reply after
AnswersDefine log name (Some d) reply after = RepliesDefine log name d reply after ⊎ RepliesDefineRefusal log name d reply after

abbrev pub AnswersStarted : Log → Entry → Result StepName Refusal → List ℕ → Option Log → Type 0
AnswersStarted log entry (Ok name) = AnswersAppended (step_reply name) (Some (appended log entry)) (Some log)
AnswersStarted log entry (Err refusal) = AnswersUnchanged (refusal_reply refusal) (Some log)

pub record AnswersInput (log : Log) (exec : Thread) (machine : List ℕ) (d : Data) (reply : List ℕ) (after : Option Log) : Type 0 where
  pub input : Json
  pub is_read : data_of input ≡ d
  pub told : AnswersStarted log (Start exec machine input) (start_answer log exec machine) reply after

abbrev pub RepliesStart : Log → Thread → List ℕ → List ℕ → List ℕ → Option Log → Type 0
RepliesStart log exec machine json reply after =
    OfJson json (λ told. AnswersUnchanged told (Some log) reply after) (λ d. AnswersInput log exec machine d reply after)

abbrev pub RepliesStep : Log → Result Moved Refusal → List ℕ → Option Log → Type 0
RepliesStep log (Ok m) = AnswersAppended (moved_reply m) (Some (appended log (Stepped m.name m.kind))) (Some log)
RepliesStep log (Err refusal) = AnswersUnchanged (refusal_reply refusal) (Some log)

abbrev pub RepliesUndo : Log → StepName → Result StepName Refusal → List ℕ → Option Log → Type 0
RepliesUndo log name (Ok undone) = AnswersAppended done_reply (Some (appended log (Undo name))) (Some log)
RepliesUndo log name (Err refusal) = AnswersUnchanged (refusal_reply refusal) (Some log)

abbrev pub AnswersPlan : Log → Result (List StepName) Refusal → List ℕ → Option Log → Type 0
AnswersPlan log (Ok names) = AnswersUnchanged (names_reply names) (Some log)
AnswersPlan log (Err refusal) = AnswersUnchanged (refusal_reply refusal) (Some log)

abbrev pub RepliesRollback : Log → StepName → Result (List StepName) Refusal → List ℕ → Option Log → Type 0
RepliesRollback log name (Ok names) = AnswersAppended (names_reply names) (Some (appended log (Rollback name names))) (Some log)
RepliesRollback log name (Err refusal) = AnswersUnchanged (refusal_reply refusal) (Some log)

abbrev pub RepliesSettle : Log → Result (Unit {0}) Refusal → List ℕ → Option Log → Type 0
RepliesSettle log (Ok done) = AnswersAppended done_reply (Some (appended log Settle)) (Some log)
RepliesSettle log (Err refusal) = AnswersUnchanged (refusal_reply refusal) (Some log)

-- so many steps are held
abbrev pub RepliesHold : Log → StepName → Result ℕ Refusal → List ℕ → Option Log → Type 0
RepliesHold log name (Ok count) = AnswersAppended (count_reply count) (Some (appended log (Hold name count))) (Some log)
RepliesHold log name (Err refusal) = AnswersUnchanged (refusal_reply refusal) (Some log)

-- the names of what is left of the hold, the latest first: none without one
abbrev pub left_names : Log → List StepName
left_names log = names_of_facts (reverse (left_of log))

abbrev pub AnswersShow : Log → Option Frame → List ℕ → Option Log → Type 0
AnswersShow log None = AnswersUnchanged (refused 5) (Some log)
AnswersShow log (Some f) = AnswersUnchanged (frame_reply f) (Some log)

abbrev pub item_text : ItemAttributes → List ℕ
item_text attributes = text_of (item_json attributes)

-- the items, in the order of their keys
pub record AnswersListing (log : Log) (reply : List ℕ) (after : Option Log) : Type 0 where
  pub listed : List ItemAttributes
  pub listing : IsListing (world_of log).items listed
  pub told : AnswersUnchanged (list_reply (map item_text listed)) (Some log) reply after

-- the remaining steps, in the order in which they were taken
abbrev pub history_reply : Log → List ℕ
history_reply log = list_reply (map (λ s. step_text (name_of s)) (remaining log))

-- ---- several steps

-- One turn of a drive: a step is taken; or a thread is passed by until the drive ends.
pub data Turn : Type 0 where
  took : StepName → Turn
  skipped : Thread → Turn

-- the steps that are taken
abbrev pub turn_steps : List Turn → List StepName
turn_steps [] = []
turn_steps (took name ∷ turns) = name ∷ turn_steps turns
turn_steps (skipped t ∷ turns) = turn_steps turns

-- whether a thread is among those that are passed by
abbrev pub is_passed_by : List Thread → Thread → Bool
is_passed_by passed t = list_any (λ u. eq_by_cmp thread_cmp u t) passed

-- each thread that has a move is passed by
abbrev pub NoneMoves : (Thread → Bool) → Log → Type 0
NoneMoves passed log = (t : Thread) → IsThread t → moves_freely log passed t ≡ false

-- the least thread, by the order of names, that has a move and isn't passed by
pub record IsLeastEnabled (passed : Thread → Bool) (log : Log) (t : Thread) : Type 0 where
  pub moves : moves_freely log passed t ≡ true
  pub least : (u : Thread) → IsThread u → thread_cmp u t ≡ Less → moves_freely log passed u ≡ false

-- the thread's step would depend directly on what is left of a hold
abbrev pub NeedsHeld : Log → Thread → Type 0
NeedsHeld log t = (name : StepName) × (step_answer log t ≡ Err (Held name))

abbrev pub is_held_refusal : Refusal → Bool
is_held_refusal (Held name) = true
is_held_refusal _ = false

-- a refusal, for another cause than a hold, of the step of the thread whose turn it is, by the book or by the journal; or out of memory
abbrev pub StopsDrive : (Thread → Bool) → Log → EntryFault → Type 0
StopsDrive passed log (by.Book refusal) = (refusal ≡ Memory) ⊎ ((t : Thread) × IsLeastEnabled passed log t × (step_answer log t ≡ Err refusal) × (is_held_refusal refusal ≡ false))
StopsDrive passed log (by.Journal fault) = (t : Thread) × IsLeastEnabled passed log t × IsOk (step_answer log t)

-- At most so many steps are taken, each of the least thread that has a move then and isn't passed by, to this log. A thread whose
-- step needs what is held is passed by from its turn on. It ends where no more are wanted or none can move, or at a refusal.
abbrev pub DrivesAtMost : ℕ → List Thread → Log → List Turn → Option EntryFault → Log → Type 0
DrivesAtMost zero passed log [] None after = after ≡ log
DrivesAtMost zero passed log [] (Some fault) after = ⊥
DrivesAtMost zero passed log (turn ∷ turns) stop after = ⊥
DrivesAtMost (suc more) passed log [] None after = NoneMoves (is_passed_by passed) log × (after ≡ log)
DrivesAtMost (suc more) passed log [] (Some fault) after = StopsDrive (is_passed_by passed) log fault × (after ≡ log)
DrivesAtMost (suc more) passed log (took name ∷ turns) stop after =
    (m : Moved) × IsLeastEnabled (is_passed_by passed) log name.thread × (step_answer log name.thread ≡ Ok m) × (name ≡ m.name) × DrivesAtMost more passed (appended log (Stepped m.name m.kind)) turns stop after
DrivesAtMost (suc more) passed log (skipped t ∷ turns) stop after = IsLeastEnabled (is_passed_by passed) log t × NeedsHeld log t × DrivesAtMost (suc more) (t ∷ passed) log turns stop after

-- what is answered to a command that isn't accepted
abbrev pub change_reply : EntryFault → List ℕ
change_reply (by.Book refusal) = refusal_reply refusal
change_reply (by.Journal fault) = journal_reply

-- what is answered to these: the steps, or a refusal that came before any
abbrev pub drive_reply : List StepName → Option EntryFault → List ℕ
drive_reply [] None = names_reply []
drive_reply [] (Some fault) = change_reply fault
drive_reply (name ∷ names) stop = names_reply (name ∷ names)

pub record AnswersDrive (log : Log) (count : ℕ) (reply : List ℕ) (after : Option Log) : Type 0 where
  pub turns : List Turn
  pub stop : Option EntryFault
  pub last : Log
  pub drives : DrivesAtMost count [] log turns stop last
  pub told : AnswersUnchanged (drive_reply (turn_steps turns) stop) (Some last) reply after

-- ---- a round of workers

-- these steps were taken one after another, each a move where it stands
abbrev pub TakesSteps : Log → List StepName → Log → Type 0
TakesSteps log [] after = after ≡ log
TakesSteps log (name ∷ names) after =
    (m : Moved) × (step_answer log name.thread ≡ Ok m) × (name ≡ m.name) × TakesSteps (appended log (Stepped m.name m.kind)) names after

-- some steps are taken, at most so many: which they are, and in which order, is open
pub record Works (log : Log) (moves : ℕ) (reply : List ℕ) (after : Option Log) : Type 0 where
  pub names : List StepName
  pub last : Log
  pub few : length names ≤ moves
  pub takes : TakesSteps log names last
  pub told : AnswersUnchanged (names_reply names) (Some last) reply after

-- none is, where there is no room for one
pub record HasNoRoom (log : Log) (reply : List ℕ) (after : Option Log) : Type 0 where
  pub full : is_full_for_step log ≡ true
  pub told : AnswersUnchanged (refusal_reply Full) (Some log) reply after

abbrev pub AnswersWork : Log → ℕ → List ℕ → Option Log → Type 0
AnswersWork log moves reply after = Works log moves reply after ⊎ HasNoRoom log reply after

-- ---- a line

-- of a session with a book
abbrev pub AnswersOpen : Log → CommandView → List ℕ → Option Log → Type 0
AnswersOpen log (command_view.table name schema json) = AnswersUnchanged (refused table_taken) (Some log)
AnswersOpen log (command_view.define name json) = AnswersDefine log name (source_text.read json)
AnswersOpen log (command_view.start exec machine json) = RepliesStart log exec machine json
AnswersOpen log (command_view.step thread) = RepliesStep log (step_answer log thread)
AnswersOpen log (command_view.undo name) = RepliesUndo log name (undo_answer log name)
AnswersOpen log (command_view.plan name) = AnswersPlan log (plan_answer log name)
AnswersOpen log (command_view.rollback name) = RepliesRollback log name (plan_answer log name)
AnswersOpen log command_view.settle = RepliesSettle log (settle_answer log)
AnswersOpen log (command_view.hold name) = RepliesHold log name (hold_answer log name)
AnswersOpen log (command_view.drive count) = AnswersDrive log count
AnswersOpen log (command_view.work workers moves) = AnswersWork log moves
AnswersOpen log (command_view.show thread) = AnswersShow log ((world_of log).frames thread)
AnswersOpen log command_view.items = AnswersListing log
AnswersOpen log command_view.history = AnswersUnchanged (history_reply log) (Some log)
AnswersOpen log command_view.held = AnswersUnchanged (names_reply (left_names log)) (Some log)

-- before its table is given
abbrev pub AnswersClosed : CommandView → List ℕ → Option Log → Type 0
AnswersClosed (command_view.table name schema json) = AnswersTable name schema json
AnswersClosed _ = AnswersUnchanged (refused no_table) None

abbrev pub AnswersCommand : Option Log → CommandView → List ℕ → Option Log → Type 0
AnswersCommand None command = AnswersClosed command
AnswersCommand (Some log) command = AnswersOpen log command

abbrev pub AnswersView : Option Log → Option CommandView → List ℕ → Option Log → Type 0
AnswersView before None = AnswersUnchanged (refused bad_line) before
AnswersView before (Some command) = AnswersCommand before command

-- out of memory may be answered in place of anything else
abbrev pub AnswersText : Option Log → Option (List ℕ) → List ℕ → Option Log → Type 0
AnswersText before line reply after = AnswersUnchanged memory_reply before reply after ⊎ AnswersView before (option_and_then command_of line) reply after

-- an empty line has no reply; a line that is too long is no command
abbrev pub AnswersLine : Option Log → Option (List ℕ) → List ℕ → Option Log → Type 0
AnswersLine before None = AnswersText before None
AnswersLine before (Some []) = AnswersUnchanged [] before
AnswersLine before (Some (b ∷ line)) = AnswersText before (Some (b ∷ line))

-- ---- lines

-- one after another, each from the book that the one before left
abbrev pub AnswersLines : Option Log → List (Option (List ℕ)) → List ℕ → Option Log → Type 0
AnswersLines before [] output after = AnswersUnchanged [] before output after
AnswersLines before (line ∷ lines) output after =
    (reply : List ℕ) × (between : Option Log) × (rest : List ℕ)
    × AnswersLine before line reply between × AnswersLines between lines rest after × (output ≡ reply ++ rest)
