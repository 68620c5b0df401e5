-- What is left where steps are taken back, and what a rerun has: causal consistency (Danos and Krivine, "Reversible Communicating
-- Systems", 2004), as the calls of a book answer for it.
use Rattle.std.specs.Prelude.{◌≡◌, ◌↔◌, List, map, Some, Result, Ok, Err}
use Rattle.step_names.specs.declared.step.StepName.{StepName}
use Rattle.trace_theory.specs.Traces.{In, IsLinearization, run}
use Rattle.saved_steps.specs.Steps.{Step, name_of}
use Rattle.saved_steps.specs.World.{World}
use Rattle.depends.specs.Instance.{steps}
use Rattle.step_history.specs.History.{TakenStep}
use Rattle.book_log.specs.Answers.{order_answer}
use Rattle.book_log.specs.Laws.{LeavesTheSame}
use Rattle.book_log.specs.Legal.{IsLegal}
use Rattle.book_log.specs.Log.{Log, base_of, settled, consequences_of, machine_of, past_of, remaining, setting_of, world_of}
use Rattle.book_log.specs.declared.refusal.Refusal.{Refusal}
use Rattle.book_log.specs.declared.refusal.Refusal.TheVariants.{Memory}
use Rattle.book_events.specs.Rest.{IsBackwardOrderOf, IsRest}

-- ---- undoing

-- such an order is undone to its end, which leaves the rest, unless memory is refused
abbrev pub UndoesBackward : {T : Type 0} → Log → List StepName → Result T Refusal → Log → Type 0
UndoesBackward before names (Ok x) after = (xs : List TakenStep) → IsBackwardOrderOf before names xs → IsRest before xs after
UndoesBackward before names (Err e) after = (xs : List TakenStep) → IsBackwardOrderOf before names xs → e ≡ Memory

-- with each step stand all its consequences
abbrev pub HasConsequences : Log → List StepName → Type 0
HasConsequences before names = (name : StepName) (y : TakenStep) → In name names → In y (consequences_of before name) → In y.fact.name names

-- every other order of these steps leaves the same
abbrev pub IsOnlyResult : Log → List StepName → Log → Type 0
IsOnlyResult before names after = (others : List StepName) (other : Log) → order_answer before others ≡ Ok other
    → ((name : StepName) → In name names ↔ In name others) → LeavesTheSame after other

-- ---- taking again

-- The steps of these names remain, in their order, and no others, and what was settled is the same; their run from the base of the other log, in its machines, gives
-- the world and what is kept of them. Where they are a linearization of all the other's steps, that is the other's world, and step by
-- step the same facts and what was kept.
pub record IsRerunOf (log : Log) (names : List StepName) (again : Log) : Type 0 where
  pub legal : IsLegal again
  pub named : map name_of (remaining again) ≡ names
  pub begin : again.begin ≡ log.begin
  pub machines : machine_of again ≡ machine_of log
  pub settled : settled again ≡ settled log
  pub in_this_log : (step : Step) → In step (remaining again) → In step (remaining log)
  pub runs : run (steps (setting_of log)) (base_of log) (remaining again) ≡ Some (world_of again, past_of again)
  pub arranged : IsLinearization (steps (setting_of log)) (past_of log) (remaining again)
      → (world_of again ≡ world_of log) × ((t : TakenStep) → In t (past_of again) ↔ In t (past_of log))

-- no remaining steps of these names can be run in this order
abbrev pub CannotRun : Log → List StepName → Type 0
CannotRun log names = (chosen : List Step) (v : World) (ts : List TakenStep) → ((step : Step) → In step chosen → In step (remaining log)) → map name_of chosen ≡ names
    → run (steps (setting_of log)) (base_of log) chosen ≡ Some (v, ts) → ⊥
