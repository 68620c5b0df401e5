-- Laws of logs, each the contract of a function of the crate.
use Rattle.std.specs.Prelude.{◌≡◌, ◌↔◌, ◌≤◌, ℕ, ◌+◌, List, [], ◌∷◌, ◌++◌, length, filter, map, not, true, false, IsSome, None, Some, Ok, Err}
use Rattle.std.specs.Str.{bytes_eq}
use Rattle.json_tree.specs.declared.tree.Json.{Json}
use Rattle.step_names.specs.Thread.{Thread}
use Rattle.step_names.specs.declared.step.StepName.{StepName}
use Rattle.trace_theory.specs.Traces.{In, Before, needs, run, is_among, IsMaximal, IsLeast, IsBackwardOrder, IsLinearization, without}
use Rattle.depends.specs.Steps.{Step, name_of, start_name}
use Rattle.depends.specs.World.{Setting, World, is_same_step}
use Rattle.depends.specs.Kind.{Kind}
use Rattle.depends.specs.Instance.{TakenStep, steps}
use Rattle.book_log.specs.Answers.{undo_answer, order_answer, plan_answer, rerun_answer, is_full_for_step, needed_left, names_of_facts, entry_of, most_steps, most_places}
use Rattle.book_log.specs.Legal.{IsAccepted, GoesOnLegally, IsLegal}
use Rattle.book_log.specs.Log.{Log, appended, base_of, settled, remaining, step_on_hold, left_of, machine_of, setting_of, run_of, world_of, past_of, consequences_of}
use Rattle.book_log.specs.declared.entry.Entry.{Entry}
use Rattle.book_log.specs.declared.entry.Entry.TheVariants.{Start, Step as Stepped, Undo, Rollback, Settle, Hold}
use Rattle.book_log.specs.declared.refusal.Refusal.{Refusal}
use Rattle.book_log.specs.declared.refusal.Refusal.TheVariants.{NoStep, HasDependents, Settled}
use Rattle.asl_machine.specs.PathSame.{IsExact}
use Rattle.book_log.specs.EntrySame.{same_entry}

-- ---- legal logs

-- what remains of a legal log can be run from its base
abbrev pub LegalLogsRun : Type 0
LegalLogsRun = (log : Log) → IsLegal log → run_of log ≡ Some (world_of log, past_of log)

-- a legal log with an entry that is accepted is one
abbrev pub AcceptedIsLegal : Type 0
AcceptedIsLegal = (log : Log) (entry : Entry) → IsLegal log → IsAccepted log entry → IsLegal (appended log entry)

-- a legal log keeps to its limits: there is room for an entry that undoes each of the remaining steps
abbrev pub LegalLogsHaveRoom : Type 0
LegalLogsHaveRoom = (log : Log) → IsLegal log → (length (remaining log) ≤ most_steps) × (length log.entries + length (remaining log) ≤ most_places)

-- ---- where a command changes something

-- the threads of other executions are as they were
abbrev pub LeavesOthers : List ℕ → Log → Log → Type 0
LeavesOthers exec before after = (t : Thread) → bytes_eq exec t.exec ≡ false → (world_of after).frames t ≡ (world_of before).frames t

-- a start changes threads of its own execution alone
abbrev pub StartsLeaveOthers : Type 0
StartsLeaveOthers = (log : Log) (exec : Thread) (machine : List ℕ) (input : Json) → IsLegal log → IsAccepted log (Start exec machine input) → LeavesOthers exec.exec log (appended log (Start exec machine input))

-- so does a step
abbrev pub StepsLeaveOthers : Type 0
StepsLeaveOthers = (log : Log) (name : StepName) (kind : Kind) → IsLegal log → IsAccepted log (Stepped name kind) → LeavesOthers name.thread.exec log (appended log (Stepped name kind))

-- ---- what is undone

-- the same steps remain of two logs, and they give the same world, the same facts, and keep the same
pub record LeavesTheSame (a : Log) (b : Log) : Type 0 where
  pub steps : remaining a ≡ remaining b
  pub world : world_of a ≡ world_of b
  pub past : past_of a ≡ past_of b

-- a step that is taken can be undone, and then all is as before it
abbrev pub UndoTakesBack : Type 0
UndoTakesBack = (log : Log) (name : StepName) (kind : Kind) → IsLegal log → IsAccepted log (Stepped name kind)
    → (undo_answer (appended log (Stepped name kind)) name ≡ Ok name) × LeavesTheSame (appended (appended log (Stepped name kind)) (Undo name)) log

-- the same of a start
abbrev pub UndoTakesBackStart : Type 0
UndoTakesBackStart = (log : Log) (exec : Thread) (machine : List ℕ) (input : Json) → IsLegal log → IsAccepted log (Start exec machine input)
    → (undo_answer (appended log (Start exec machine input)) (start_name exec.exec) ≡ Ok (start_name exec.exec))
    × LeavesTheSame (appended (appended log (Start exec machine input)) (Undo (start_name exec.exec))) log

-- A step that is undone can be taken again where there is room and it needs nothing of what is held: it stands last then, and all
-- is as before the undoing.
pub record IsGivenBack (log : Log) (name : StepName) : Type 0 where
  pub taken : TakenStep
  pub named : taken.fact.name ≡ name
  pub again : is_full_for_step (appended log (Undo name)) ≡ false → needed_left (appended log (Undo name)) taken.fact ≡ None → IsAccepted (appended log (Undo name)) (entry_of taken)
  pub world : world_of (appended (appended log (Undo name)) (entry_of taken)) ≡ world_of log
  pub past : past_of (appended (appended log (Undo name)) (entry_of taken)) ≡ without (steps (setting_of log)) (taken ∷ []) (past_of log) ++ taken ∷ []

abbrev pub AgainGivesBack : Type 0
AgainGivesBack = (log : Log) (name : StepName) → IsLegal log → undo_answer log name ≡ Ok name → IsGivenBack log name

-- the first later step that depends directly on a step
pub record IsFirstDependent (s : Setting) (ts : List TakenStep) (t : TakenStep) (y : TakenStep) : Type 0 where
  pub later : Before t y ts
  pub depends : needs (steps s) t y ≡ true
  pub first : (z : TakenStep) → Before t z ts → Before z y ts → needs (steps s) t z ≡ false

-- A step is undone exactly where it remains and no later one depends directly on it. Its undoing is refused where it was settled, where
-- it neither remains nor was, and for the first that depends directly on it, and only there.
pub record AreUndoAnswers (log : Log) (name : StepName) : Type 0 where
  pub undone : (undo_answer log name ≡ Ok name) ↔ ((t : TakenStep) × (t.fact.name ≡ name) × IsMaximal (steps (setting_of log)) (past_of log) t)
  pub none : (undo_answer log name ≡ Err NoStep) ↔ (((step : Step) → In step (remaining log) → name_of step ≡ name → ⊥) × ((step : Step) → In step (settled log) → name_of step ≡ name → ⊥))
  pub settled : (undo_answer log name ≡ Err Settled) ↔ ((step : Step) × In step (settled log) × (name_of step ≡ name))
  pub dependent : (d : StepName) → (undo_answer log name ≡ Err (HasDependents d)) ↔ ((t : TakenStep) × (y : TakenStep) × (t.fact.name ≡ name) × (y.fact.name ≡ d) × IsFirstDependent (setting_of log) (past_of log) t y)

abbrev pub UndoAnswersAreExact : Type 0
UndoAnswersAreExact = (log : Log) (name : StepName) → IsLegal log → AreUndoAnswers log name

-- ---- settlements

-- The remaining steps are settled: the world is as it was, and is the base of the steps to come.
pub record IsSettledIn (before after : Log) : Type 0 where
  pub world : world_of after ≡ world_of before
  pub base : base_of after ≡ world_of before
  pub setting : setting_of after ≡ setting_of before
  pub steps : remaining after ≡ []
  pub settled : settled after ≡ settled before ++ remaining before

abbrev pub SettlingKeepsTheWorld : Type 0
SettlingKeepsTheWorld = (log : Log) → IsLegal log → IsAccepted log Settle → IsSettledIn log (appended log Settle)

-- whatever commands come, a step that was settled stays so
abbrev pub SettledStaysSettled : Type 0
SettledStaysSettled = (log : Log) (entries : List Entry) (step : Step) → In step (settled log) → In step (settled (record { begin = log.begin; entries = log.entries ++ entries }))

-- ---- holds

-- What is left of a hold after one more entry: a definition, a start and a step leave it as it was, an undoing takes its step
-- out, and a rollback the steps that it takes back.
abbrev pub left_after : Log → Entry → List TakenStep
left_after log (Undo name) = filter (λ t. not (is_same_step name (name_of t.step))) (left_of log)
left_after log (Rollback name undone) = without (steps (setting_of log)) (consequences_of log name) (left_of log)
left_after log Settle = []
left_after log (Hold name count) = consequences_of log name
left_after log _ = left_of log

abbrev pub LeftIsAfter : Type 0
LeftIsAfter = (log : Log) (entry : Entry) → IsLegal log → IsAccepted log entry → left_of (appended log entry) ≡ left_after log entry

-- A hold that stands: its step is the first that is left, all that is left remains, and the last of it can be undone.
pub record IsHeld (log : Log) (name : StepName) : Type 0 where
  pub step : TakenStep
  pub named : step.fact.name ≡ name
  pub later : List TakenStep
  pub left : left_of log ≡ step ∷ later
  pub inside : (x : TakenStep) → In x (left_of log) → In x (past_of log)
  pub latest : (front : List TakenStep) (x : TakenStep) → left_of log ≡ front ++ x ∷ [] → undo_answer log x.fact.name ≡ Ok x.fact.name

abbrev pub HoldsStand : Type 0
HoldsStand = (log : Log) (name : StepName) → IsLegal log → step_on_hold log ≡ Some name → IsHeld log name

abbrev pub NothingIsLeft : Type 0
NothingIsLeft = (log : Log) → step_on_hold log ≡ None → left_of log ≡ []

-- how many of the steps that are left an entry takes back
abbrev pub lowered_by : Log → Entry → ℕ
lowered_by log (Undo name) = length (filter (λ t. is_same_step name (name_of t.step)) (left_of log))
lowered_by log (Rollback name undone) = length (filter (is_among (steps (setting_of log)) (consequences_of log name)) (left_of log))
lowered_by log _ = 0

-- the same of entries one after another
abbrev pub entries_lowered : Log → List Entry → ℕ
entries_lowered log [] = 0
entries_lowered log (e ∷ entries) = lowered_by log e + entries_lowered (appended log e) entries

-- a hold stands before each of these entries
abbrev pub IsHeldThroughout : Log → List Entry → Type 0
IsHeldThroughout log [] = Unit {0}
IsHeldThroughout log (e ∷ entries) = IsSome (step_on_hold log) × IsHeldThroughout (appended log e) entries

-- A hold is over after exactly as many undoings of steps that are left as it began with: whatever other commands come, what is left
-- shrinks by these alone, and stays among what was held.
pub record IsShared (start : Log) (entries : List Entry) (count : ℕ) : Type 0 where
  pub counted : length (left_of (record { begin = start.begin; entries = start.entries ++ entries })) + entries_lowered start entries ≡ count
  pub inside : (x : TakenStep) → In x (left_of (record { begin = start.begin; entries = start.entries ++ entries })) → In x (left_of start)

abbrev pub HoldsAreShared : Type 0
HoldsAreShared = (log : Log) (name : StepName) (count : ℕ) (entries : List Entry) → IsLegal log → IsAccepted log (Hold name count)
    → GoesOnLegally (appended log (Hold name count)) entries → IsHeldThroughout (appended log (Hold name count)) entries → IsShared (appended log (Hold name count)) entries count

-- ---- orders

-- Every order in which each step is free at its turn is accepted to its end, and leaves the run of the rest.
abbrev pub BackwardOrdersAreAccepted : Type 0
BackwardOrdersAreAccepted = (log : Log) (xs : List TakenStep) → IsLegal log → IsBackwardOrder (steps (setting_of log)) (past_of log) xs
    → (after : Log) × (order_answer log (names_of_facts xs) ≡ Ok after) × IsLegal after × (past_of after ≡ without (steps (setting_of log)) xs (past_of log))

-- An order that is accepted holds with each step all its consequences.
abbrev pub AcceptedOrdersAreClosed : Type 0
AcceptedOrdersAreClosed = (log after : Log) (names : List StepName) (name : StepName) (y : TakenStep) → IsLegal log → order_answer log names ≡ Ok after
    → In name names → In y (consequences_of log name) → In y.fact.name names

-- Orders of the same steps leave one world.
abbrev pub OrdersAgree : Type 0
OrdersAgree = (log a b : Log) (names others : List StepName) → IsLegal log → order_answer log names ≡ Ok a → order_answer log others ≡ Ok b
    → ((name : StepName) → In name names ↔ In name others) → LeavesTheSame a b

-- ---- rollback

-- A step and its consequences are the least set that holds it and each later step that depends directly on a member; the rest
-- remains, in its order, and its run is the world; and undoing them one by one, the latest first, leaves the same.
pub record IsRolledBack (log : Log) (name : StepName) (undone : List StepName) : Type 0 where
  pub taken : TakenStep
  pub named : taken.fact.name ≡ name
  pub stood : In taken (past_of log)
  pub least : IsLeast (steps (setting_of log)) (past_of log) taken (consequences_of log name)
  pub rest : past_of (appended log (Rollback name undone)) ≡ without (steps (setting_of log)) (consequences_of log name) (past_of log)
  pub after : Log
  pub one_by_one : order_answer log undone ≡ Ok after
  pub same : LeavesTheSame after (appended log (Rollback name undone))

abbrev pub RollbackIsExact : Type 0
RollbackIsExact = (log : Log) (name : StepName) (undone : List StepName) → IsLegal log → plan_answer log name ≡ Ok undone → IsRolledBack log name undone

-- ---- linearizations

-- What a rerun answers is legal, its steps are those of the names in their order, and it has the world of their run.
abbrev pub RerunsAreLegal : Type 0
RerunsAreLegal = (log again : Log) (names : List StepName) → IsLegal log → rerun_answer log names ≡ Ok again → IsLegal again × (map name_of (remaining again) ≡ names)

-- A rerun has steps of the log and its machines; each list of remaining steps that can be run is answered, by its run; and else no
-- refusal is given but that there is no such step. What was settled stays so.
pub record IsRerun (log : Log) (names : List StepName) : Type 0 where
  pub in_this_log : (again : Log) → rerun_answer log names ≡ Ok again → ((step : Step) → In step (remaining again) → In step (remaining log)) × (machine_of again ≡ machine_of log) × (settled again ≡ settled log)
  pub runnable : (chosen : List Step) (v : World) (ts : List TakenStep) → ((step : Step) → In step chosen → In step (remaining log)) → map name_of chosen ≡ names
      → run (steps (setting_of log)) (base_of log) chosen ≡ Some (v, ts)
      → (again : Log) × (rerun_answer log names ≡ Ok again) × (remaining again ≡ chosen) × (world_of again ≡ v) × (past_of again ≡ ts)
  pub refused : (e : Refusal) → rerun_answer log names ≡ Err e → e ≡ NoStep

abbrev pub RerunsAreExact : Type 0
RerunsAreExact = (log : Log) (names : List StepName) → IsLegal log → IsRerun log names

-- Every linearization of the remaining steps that keeps directly dependent ones in their order can be rerun: the same world, and step by
-- step the same facts and what was kept.
abbrev pub StepOrdersAgree : Type 0
StepOrdersAgree = (log : Log) (arranged : List Step) → IsLegal log → IsLinearization (steps (setting_of log)) (past_of log) arranged
    → (again : Log) × (rerun_answer log (map name_of arranged) ≡ Ok again) × (world_of again ≡ world_of log) × ((t : TakenStep) → In t (past_of again) ↔ In t (past_of log))

-- ---- entries

-- what `==` says of entries holds exactly where they are one
abbrev pub EqualityIsOfEntries : Type 0
EqualityIsOfEntries = IsExact same_entry
