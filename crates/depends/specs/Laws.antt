-- What is true of the steps of executions, in every setting, from every world that a run reaches from one without executions.
use Rattle.std.specs.Prelude.{◌≡◌, ◌↔◌, ℕ, List, map, reverse, None, Some, slice_get, option_map}
use Rattle.saved_steps.specs.Definition.{Definition}
use Rattle.step_names.specs.Thread.{Thread}
use Rattle.trace_theory.specs.Footprints.{IsReached}
use Rattle.trace_theory.specs.Traces as theory
use Rattle.trace_theory.specs.Traces.{IsRun, consequences, IsMaximal, IsReversible, HasNames, Square, Loop, LeastConsequences, OrdersUndo, LinearizationsAgree, HoldIsWhatIsLeft}
use Rattle.saved_steps.specs.Run.{run_steps}
use Rattle.saved_steps.specs.Steps.{Step}
use Rattle.saved_steps.specs.World.{Setting, World}
use Rattle.saved_steps.specs.declared.fact.Fact.{Fact}
use Rattle.depends.specs.Instance.{TakenStep, steps}
use Rattle.depends.specs.Plans.{first_dependent, plan}

-- of the same table, with the machines that there are in the first and perhaps more
pub record ExtendsSetting (s more : Setting) : Type 0 where
  pub table : more.table ≡ s.table
  pub schema : more.schema ≡ s.schema
  pub machines : (name : List ℕ) (d : Definition) → s.machines name ≡ Some d → more.machines name ≡ Some d

-- no thread has a frame; the items are as they may be
abbrev pub HasNoFrames : World → Type 0
HasNoFrames base = (t : Thread) → base.frames t ≡ None

-- a run reaches the world from one without executions
abbrev pub IsFrom : Setting → World → Type 0
IsFrom s base = (first : World) × HasNoFrames first × IsReached (steps s) first base

abbrev pub facts_of : List TakenStep → List Fact
facts_of ts = map (λ t. t.fact) ts

-- the theory's runs are runs, seen with what each step kept
abbrev pub RunsAreSeen : Type 0
RunsAreSeen = (s : Setting) (w : World) (names : List Step) → run_steps s w names ≡ option_map (λ p. (p.0, facts_of p.1)) (theory.run (steps s) w names)

-- independent neighbours swap, and what a step kept undoes it
abbrev pub StepsAreReversible : Type 0
StepsAreReversible = (s : Setting) (base : World) → IsFrom s base → IsReversible (steps s) base

-- no two steps of a run have one name
abbrev pub StepsHaveNames : Type 0
StepsHaveNames = (s : Setting) (base : World) → IsFrom s base → HasNames (steps s) base

abbrev pub StepsSwap : Type 0
StepsSwap = (s : Setting) (base : World) → IsFrom s base → Square (steps s) base

abbrev pub StepsUndo : Type 0
StepsUndo = (s : Setting) (base : World) → IsFrom s base → Loop (steps s) base

abbrev pub ConsequencesAreLeast : Type 0
ConsequencesAreLeast = (s : Setting) (base : World) → IsFrom s base → LeastConsequences (steps s) base

abbrev pub UndoOrdersAgree : Type 0
UndoOrdersAgree = (s : Setting) (base : World) → IsFrom s base → OrdersUndo (steps s) base

abbrev pub StepLinearizationsAgree : Type 0
StepLinearizationsAgree = (s : Setting) (base : World) → IsFrom s base → LinearizationsAgree (steps s) base

abbrev pub HeldStepsAreLeft : Type 0
HeldStepsAreLeft = (s : Setting) (base : World) → IsFrom s base → HoldIsWhatIsLeft (steps s) base

-- ---- plans

-- The plan of a step is its consequences, from the last to the first.
abbrev pub PlansAreConsequences : Type 0
PlansAreConsequences =
    (s : Setting) (base v : World) (ts : List TakenStep) (place : ℕ) (t : TakenStep)
    → IsFrom s base → IsRun (steps s) base ts v → slice_get ts place ≡ Some t
    → map (slice_get ts) (plan (facts_of ts) place) ≡ map Some (reverse (consequences (steps s) ts t.step))

-- A step has no dependent just where it is free.
abbrev pub MaximalStepsHaveNoDependent : Type 0
MaximalStepsHaveNoDependent =
    (s : Setting) (base v : World) (ts : List TakenStep) (place : ℕ) (t : TakenStep)
    → IsFrom s base → IsRun (steps s) base ts v → slice_get ts place ≡ Some t
    → (first_dependent (facts_of ts) place ≡ None) ↔ IsMaximal (steps s) ts t
