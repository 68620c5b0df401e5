-- What is left if steps are taken back: causal consistency (Danos and Krivine, "Reversible Communicating Systems", 2004).
use Rattle.std.specs.Prelude.{◌≡◌, List}
use Rattle.step_names.specs.declared.step.StepName.{StepName}
use Rattle.trace_theory.specs.Traces.{IsRun, IsBackwardOrder, without}
use Rattle.depends.specs.Instance.{steps}
use Rattle.step_history.specs.History.{TakenStep}
use Rattle.book_log.specs.Answers.{names_of_facts}
use Rattle.book_log.specs.Log.{Log, base_of, past_of, setting_of, world_of}

-- The steps but these remain, in their order, with their facts and what they kept; and the world is that of their run from their base.
pub record IsRest (before : Log) (xs : List TakenStep) (after : Log) : Type 0 where
  pub past : past_of after ≡ without (steps (setting_of before)) xs (past_of before)
  pub run : IsRun (steps (setting_of before)) (base_of before) (without (steps (setting_of before)) xs (past_of before)) (world_of after)

-- the names are those of steps that may be undone in this order, each free at its turn
pub record IsBackwardOrderOf (log : Log) (names : List StepName) (xs : List TakenStep) : Type 0 where
  pub named : names_of_facts xs ≡ names
  pub allowed : IsBackwardOrder (steps (setting_of log)) (past_of log) xs
