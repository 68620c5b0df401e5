-- Histories where each name is one machine's: those that the tests make.
use Rattle.std.specs.Prelude.{◌≡◌, ℕ, List, Some}
use Rattle.asl_tree.specs.Definition.{Definition}
use Rattle.attr_values.specs.declared.key.KeySchema.{KeySchema}
use Rattle.step_names.specs.declared.step.StepName.{StepName}
use Rattle.saved_steps.specs.Effects.{effect_of}
use Rattle.saved_steps.specs.Held.{world_view}
use Rattle.saved_steps.specs.Made.{effect_of_next}
use Rattle.saved_steps.specs.Steps.{Step}
use Rattle.saved_steps.specs.World.{Setting, World}
use Rattle.saved_steps.specs.declared.next.Next.{Next}
use Rattle.step_history.specs.History.{TakenStep, IsHistory}
use Rattle.step_history.specs.declared.history.History.{History}

abbrev pub only : Definition → List ℕ → KeySchema → Setting
only d table schema = record { machines = λ name. Some d; table = table; schema = schema }

-- it is the history of some steps of the machine
abbrev pub IsOfMachine : Definition → History → Type 0
IsOfMachine d h = (table : List ℕ) × (schema : KeySchema) × (base : World) × (ts : List TakenStep) × IsHistory (only d table schema) base ts h

-- where the step is to do what its next says, the second history is one too
abbrev pub GoesOn : History → StepName → Next → History → Type 0
GoesOn h name next g =
    (s : Setting) (base : World) (ts : List TakenStep) (step : Step) → IsHistory s base ts h → effect_of s (world_view h.world) step ≡ effect_of_next h.world name next
    → (more : List TakenStep) × IsHistory s base more g
