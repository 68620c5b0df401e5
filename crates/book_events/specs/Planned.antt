-- How a move is refused, and what a rollback was planned of.
use Rattle.std.specs.Prelude.{◌≡◌, ◌≤◌, ◌+◌, ◌-◌, ◌⊎◌, ℕ, List, ◌++◌, length, slice_get, Some, option_map, Result, Ok, Err}
use Rattle.depends.specs.Plans.{plan}
use Rattle.step_history.specs.History.{TakenStep}
use Rattle.step_history.specs.Near.{near_behind}
use Rattle.step_names.specs.Thread.{Thread}
use Rattle.book_log.specs.Answers.{StepLacks, step_answer, plan_answer}
use Rattle.book_log.specs.Log.{Log, log_facts}
use Rattle.book_log.specs.declared.entry.Entry.{Entry}
use Rattle.book_log.specs.declared.refusal.Refusal.{Refusal}
use Rattle.book_log.specs.declared.refusal.Refusal.TheVariants.{Memory}
use Rattle.book_events.specs.Rest.{IsBackwardOrderOf}
use Rattle.book_events.specs.declared.room.PlanRoom.{PlanRoom}

-- where it isn't refused, want of memory may be told
abbrev pub OrMemory : {T : Type 0} → Result T Refusal → Refusal → Type 0
OrMemory (Ok x) e = e ≡ Memory
OrMemory (Err f) e = e ≡ f

-- a move is refused as it is answered, or memory is wanting where something is held
abbrev pub IsMoveRefusal : Log → Thread → Refusal → Type 0
IsMoveRefusal log t e = OrMemory (step_answer log t) e ⊎ ((e ≡ Memory) × StepLacks log t)

-- ---- rollback

-- The names are the step and its consequences after so many entries, the latest first, and the places are theirs.
pub record IsPlanned (log : Log) (r : PlanRoom) : Type 0 where
  pub names : plan_answer log r.step ≡ Ok r.names
  pub kept : r.undone ≡ r.names
  pub entries : length log.entries ≡ r.entries
  -- the step stands at this place
  pub at : ℕ
  pub there : option_map (λ f. f.name) (slice_get (log_facts log) at) ≡ Some r.step
  pub places : r.places ≡ plan (log_facts log) at
  -- each of its steps was looked at, at most all remaining steps from the first one on, and besides that one only later steps that are in a
  -- class of a step of the plan
  pub members : length r.places ≤ r.looks
  pub from : r.looks ≤ length (log_facts log) - at
  pub near : r.looks ≤ 1 + near_behind (log_facts log) r.places at
  -- the steps of these names may be undone one by one in this order
  pub order : (xs : List TakenStep) × IsBackwardOrderOf log r.names xs

-- The room was planned when the book had its first entries, as many as the room counts.
pub record WasPlanned (log : Log) (r : PlanRoom) : Type 0 where
  pub front : List Entry
  pub later : List Entry
  pub parts : log.entries ≡ front ++ later
  pub planned : IsPlanned (record { begin = log.begin; entries = front }) r
