-- What the calls of a book promise, over what it began with and the commands that it accepted: `before` is that of before a call,
-- `after` that of after it. A book and whatever stands for one in code over many callers promise the same.
use Rattle.std.specs.Prelude.{◌≡◌, ◌<◌, ◌⊎◌, ℕ, List, [], ◌∷◌, ◌++◌, length, Bool, true, Option, Some, None, Result, Err, Ok, IfOk, IfErr, IsOk, OnOk, OnErr, MatchResult}
use Rattle.std.specs.Borrow.{Bor}
use Rattle.json_tree.specs.declared.tree.Json.{Json}
use Rattle.step_history.specs.Frame.{Frame}
use Rattle.step_history.specs.History.{TakenStep}
use Rattle.saved_steps.specs.First.{IsFirstReady}
use Rattle.step_names.specs.Thread.{Thread}
use Rattle.step_names.specs.declared.step.StepName.{StepName}
use Rattle.book_log.specs.Answers.{Gives, GivesOr, HoldLacks, SettleLacks, StepLacks, hold_answer, plan_answer, remains, settle_answer, start_answer, step_answer, undo_answer}
use Rattle.book_log.specs.Laws.{IsRolledBack}
use Rattle.book_log.specs.Legal.{IsLegal}
use Rattle.book_log.specs.Log.{Log, appended, consequences_of, left_of, world_of}
use Rattle.book_log.specs.declared.begin.Begin.{Begin}
use Rattle.book_log.specs.declared.entry.Entry.{Entry}
use Rattle.book_log.specs.declared.entry.Entry.TheVariants.{Start, Step as Stepped, Undo, Rollback, Settle, Hold}
use Rattle.book_log.specs.declared.moved.Moved.{Moved}
use Rattle.book_log.specs.declared.refusal.Refusal.{Refusal}
use Rattle.book_log.specs.declared.refusal.Refusal.TheVariants.{Memory, NoThread, Stale}
use Rattle.book_events.specs.Rest.{IsRest}
use Rattle.book_events.specs.Planned.{IsPlanned}
use Rattle.book_events.specs.FirstMove.{IsFirstToMove}
use Rattle.book_events.specs.declared.room.PlanRoom.{PlanRoom}
use Rattle.book_events.specs.declared.room.Room.{Room}

-- a start is answered as the log has it, and is the next entry where it is accepted
pub record Starts (before after : Log) (exec : Thread) (machine : List ℕ) (input : Json) (result : Result StepName Refusal) : Type 0 where
  pub answer : Gives result (start_answer before exec machine)
  pub ok : OnOk result (after ≡ appended before (Start exec machine input))
  pub err : OnErr result (after ≡ before)

-- so is a step, with its name and kind
pub record Steps (before after : Log) (thread : Thread) (result : Result Moved Refusal) : Type 0 where
  pub answer : GivesOr (StepLacks before thread) result (step_answer before thread)
  pub ok : IfOk result (λ m. after ≡ appended before (Stepped m.name m.kind))
  pub err : OnErr result (after ≡ before)

-- so is a settlement
pub record Settles (before after : Log) (result : Result (Unit {0}) Refusal) : Type 0 where
  pub answer : GivesOr (SettleLacks before) result (settle_answer before)
  pub ok : OnOk result (after ≡ appended before Settle)
  pub err : OnErr result (after ≡ before)

-- so is a hold, with how many steps it holds
pub record Holds (before after : Log) (step : StepName) (result : Result ℕ Refusal) : Type 0 where
  pub answer : GivesOr (HoldLacks before step) result (hold_answer before step)
  pub ok : IfOk result (λ count. after ≡ appended before (Hold step count))
  pub err : OnErr result (after ≡ before)

-- the latest step that is left of a hold, if any is
abbrev pub IsLatestLeft : Log → Option StepName → Type 0
IsLatestLeft log None = left_of log ≡ []
IsLatestLeft log (Some name) = (front : List TakenStep) × (x : TakenStep) × (left_of log ≡ front ++ x ∷ []) × (x.fact.name ≡ name)

-- room for the undoing of this step, refused for memory alone
pub record MakesRoom (step : StepName) (result : Result Room Refusal) : Type 0 where
  pub ok : IfOk result (λ r. r.step ≡ step)
  pub err : IfErr result (λ e. e ≡ Memory)

-- the same, where want of memory is told only of a step that remains; of another it is told why it doesn't
pub record MakesUndoRoom (log : Log) (step : StepName) (result : Result Room Refusal) : Type 0 where
  pub ok : IfOk result (λ r. r.step ≡ step)
  pub err : IfErr result (λ e. ((e ≡ Memory) × (remains log step ≡ true)) ⊎ (undo_answer log step ≡ Err e))

-- an undoing is answered exactly as the log has it, since it takes no memory
pub record Undoes (before after : Log) (step : StepName) (result : Result StepName Refusal) : Type 0 where
  pub answer : result ≡ undo_answer before step
  pub ok : OnOk result (after ≡ appended before (Undo step))
  pub err : OnErr result (after ≡ before)

-- a plan of a step's rollback, where the step remains
abbrev pub PlansRollback : Log → StepName → Result PlanRoom Refusal → Type 0
PlansRollback log step result = MatchResult result
    (λ r. (r.step ≡ step) × IsPlanned log r)
    (λ e. ((e ≡ Memory) × IsOk (plan_answer log step)) ⊎ (plan_answer log step ≡ Err e))

-- what was planned is taken back, and no other step, and the rest runs on; it is refused just where the log has grown since
pub record RollsBack (before after : Log) (room : PlanRoom) (result : Result (List StepName) Refusal) : Type 0 where
  pub ok : IfOk result (λ names. (names ≡ room.names) × (plan_answer before room.step ≡ Ok names) × (after ≡ appended before (Rollback room.step names)))
  pub exact : IfOk result (IsRolledBack before room.step)
  pub rest : OnOk result (IsRest before (consequences_of before room.step) after)
  pub fresh : OnOk result (room.entries ≡ length before.entries)
  pub stale : IfErr result (λ e. (e ≡ Stale (length before.entries)) × (room.entries < length before.entries))
  pub err : OnErr result (after ≡ before)

-- the least thread that has a move and is not passed by, also as the frames of threads tell it; refused for memory alone
pub record FindsFirst (log : Log) (passed : Thread → Bool) (result : Result (Option Thread) Refusal) : Type 0 where
  pub first : IfOk result (IsFirstToMove log passed)
  pub ready : IfOk result (IsFirstReady (world_of log).frames passed)
  pub memory : IfErr result (λ e. e ≡ Memory)

-- a thread's frame in the world that the remaining steps give
abbrev pub Shows : Log → Thread → Result (Bor Frame) Refusal → Type 0
Shows log thread result = MatchResult result
    (λ f. (world_of log).frames thread ≡ Some f.now)
    (λ e. (e ≡ NoThread) × ((world_of log).frames thread ≡ None))

-- the beginning and the entries, each of which was accepted at its place
pub record IsLogOf (log : Log) (beginning : Begin) (listed : List Entry) : Type 0 where
  pub begin : beginning ≡ log.begin
  pub entries : listed ≡ log.entries
  pub legal : IsLegal log
