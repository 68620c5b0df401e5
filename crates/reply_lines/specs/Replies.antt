-- Replies, as they are written: `ok` or `no`, and what is told beside. Texts are JSON texts (RFC 8259, section 7).
use Rattle.std.specs.Prelude.{ℕ, List, [], ◌∷◌, ◌++◌, length, map, flat_map, codes}
use Rattle.std.specs.Fmt.{decimal}
use Rattle.json_tree.specs.declared.fault.JsonFault.{JsonFault}
use Rattle.json_tree.specs.declared.fault.JsonFault.TheVariants as json_faults
use Rattle.json_tree.specs.View.{data_of}
use Rattle.json_tree.specs.Written.{quoted, text_of}
use Rattle.asl_fields.specs.declared.fault.MachineFault.{MachineFault}
use Rattle.asl_fields.specs.declared.fault.MachineFault.TheVariants as faults
use Rattle.attr_values.specs.declared.fault.ItemFault.{ItemFault}
use Rattle.attr_values.specs.declared.fault.ItemFault.TheVariants as item_faults
use Rattle.step_names.specs.Written.{step_text}
use Rattle.step_names.specs.declared.step.StepName.{StepName}
use Rattle.book_log.specs.Fault.{Fault}
use Rattle.book_log.specs.Frame.{Frame}
use Rattle.book_log.specs.Phase.{Phase}
use Rattle.book_log.specs.Phase.TheVariants as phases
use Rattle.book_log.specs.Readiness.{Readiness}
use Rattle.book_log.specs.Readiness.TheVariants as phase
use Rattle.book_log.specs.Kind.{Kind}
use Rattle.book_log.specs.Kind.TheVariants.{Start, Plain, Call, Fork, Join, Terminate}
use Rattle.book_log.specs.declared.entry.Entry.{Entry}
use Rattle.book_log.specs.declared.entry.Entry.TheVariants as entry
use Rattle.book_log.specs.declared.moved.Moved.{Moved}
use Rattle.book_log.specs.declared.refusal.Refusal.{Refusal}
use Rattle.book_log.specs.declared.refusal.Refusal.TheVariants as refusals

-- a line feed after a text
abbrev pub with_feed : List ℕ → List ℕ
with_feed text = text ++ 10 ∷ []

-- ---- what is accepted

abbrev pub done_reply : List ℕ
done_reply = codes "ok\n"

abbrev pub step_reply : StepName → List ℕ
step_reply name = codes "ok " ++ with_feed (step_text name)

abbrev pub kind_text : Kind → List ℕ
kind_text Start = codes " start"
kind_text Plain = codes " plain"
kind_text Call = codes " call"
kind_text Fork = codes " fork"
kind_text Join = codes " join"
kind_text Terminate = codes " terminate"

abbrev pub moved_reply : Moved → List ℕ
moved_reply m = codes "ok " ++ (step_text m.name ++ with_feed (kind_text m.kind))

-- how many there are
abbrev pub count_reply : ℕ → List ℕ
count_reply count = codes "ok " ++ with_feed (decimal count)

-- how many there are, and each in a line of its own
abbrev pub list_reply : List (List ℕ) → List ℕ
list_reply texts = codes "ok " ++ (with_feed (decimal (length texts)) ++ flat_map with_feed texts)

abbrev pub names_reply : List StepName → List ℕ
names_reply names = list_reply (map step_text names)

-- a command's entry holds its reply
abbrev pub entry_reply : Entry → List ℕ
entry_reply (entry.Define name machine) = done_reply
entry_reply (entry.Start exec machine input) = step_reply (record { thread = exec; no = 0 })
entry_reply (entry.Step name kind) = moved_reply (record { name = name; kind = kind })
entry_reply (entry.Undo name) = done_reply
entry_reply (entry.Rollback name undone) = names_reply undone
entry_reply entry.Settle = done_reply
entry_reply (entry.Hold name count) = count_reply count

-- the state that a thread stands at, and how many moves it made
abbrev pub place_text : Frame → List ℕ
place_text f = quoted f.state ++ 32 ∷ decimal f.count

abbrev pub fault_text : Fault → List ℕ
fault_text fault = quoted fault.error ++ 32 ∷ quoted fault.cause

abbrev pub phase_reply : Frame → Phase → List ℕ
phase_reply f phases.Ready = codes "ok ready " ++ with_feed (place_text f)
phase_reply f (phases.Parked branches bound) = codes "ok parked " ++ (place_text f ++ 32 ∷ with_feed (decimal branches))
phase_reply f (phases.Done output) = codes "ok done " ++ with_feed (text_of (data_of output))
phase_reply f (phases.Failed fault) = codes "ok failed " ++ with_feed (fault_text fault)

abbrev pub frame_reply : Frame → List ℕ
frame_reply f = phase_reply f f.phase

-- ---- what is refused

-- the codes of refusals that are no book's
abbrev pub bad_line : ℕ
bad_line = 20

abbrev pub no_table : ℕ
no_table = 21

abbrev pub table_taken : ℕ
table_taken = 22

abbrev pub bad_beginning : ℕ
bad_beginning = 23

abbrev pub no_journal : ℕ
no_journal = 24

abbrev pub bad_json : ℕ
bad_json = 25

abbrev pub refused : ℕ → List ℕ
refused code = codes "no " ++ with_feed (decimal code)

abbrev pub refused_by : ℕ → ℕ → List ℕ
refused_by code number = codes "no " ++ (decimal code ++ 32 ∷ with_feed (decimal number))

abbrev pub refused_for_step : ℕ → StepName → List ℕ
refused_for_step code name = codes "no " ++ (decimal code ++ 32 ∷ with_feed (step_text name))

-- a definition is refused by the number of its fault, and by the name of the field or of the state that it is about
abbrev pub refused_for_field : ℕ → List ℕ → List ℕ
refused_for_field fault name = codes "no 3 " ++ (decimal fault ++ 32 ∷ with_feed (quoted name))

abbrev pub memory_reply : List ℕ
memory_reply = codes "no 11\n"

abbrev pub machine_reply : MachineFault → List ℕ
machine_reply (faults.Missing field) = refused_for_field 1 field
machine_reply (faults.UnknownField field) = refused_for_field 2 field
machine_reply (faults.Unsupported field) = refused_for_field 3 field
machine_reply (faults.BadField field) = refused_for_field 4 field
machine_reply (faults.NoTarget name) = refused_for_field 5 name
machine_reply (faults.NextAndEnd state) = refused_for_field 6 state
machine_reply faults.StatesAllPlace = refused_by 3 7
machine_reply faults.TooDeep = refused_by 3 8
machine_reply faults.Memory = memory_reply

-- a thread without a move is done, has failed, or waits
abbrev pub readiness_text : Readiness → List ℕ
readiness_text phase.Done = codes "done"
readiness_text phase.Failed = codes "failed"
readiness_text phase.Waiting = codes "waiting"
readiness_text phase.Ready = codes "waiting"
readiness_text phase.Join = codes "waiting"
readiness_text phase.Terminate = codes "waiting"
readiness_text phase.NoThread = codes "waiting"

abbrev pub refusal_reply : Refusal → List ℕ
refusal_reply refusals.NoMachine = refused 1
refusal_reply refusals.MachineTaken = refused 2
refusal_reply (refusals.BadMachine fault) = machine_reply fault
refusal_reply refusals.ExecTaken = refused 4
refusal_reply refusals.NoThread = refused 5
refusal_reply (refusals.NotReady readiness) = codes "no 6 " ++ with_feed (readiness_text readiness)
refusal_reply refusals.NoStep = refused 7
refusal_reply (refusals.HasDependents step) = refused_for_step 8 step
refusal_reply (refusals.Stale entries) = refused 9
refusal_reply refusals.Full = refused 10
refusal_reply refusals.Memory = memory_reply
refusal_reply refusals.Settled = refused 12
refusal_reply (refusals.Held step) = refused_for_step 13 step

-- ---- JSON that is none

abbrev pub json_reply : JsonFault → List ℕ
json_reply json_faults.NotJson = refused_by bad_json 1
json_reply json_faults.NotWhole = refused_by bad_json 2
json_reply json_faults.Memory = memory_reply

-- ---- items that are none

abbrev pub item_fault_reply : ItemFault → List ℕ
item_fault_reply item_faults.BadValue = refused_by bad_beginning 1
item_fault_reply item_faults.BadNumber = refused_by bad_beginning 2
item_fault_reply item_faults.NoKey = refused_by bad_beginning 3
item_fault_reply item_faults.KeyType = refused_by bad_beginning 4
item_fault_reply item_faults.EmptyKey = refused_by bad_beginning 5
item_fault_reply item_faults.Memory = memory_reply
