-- Steps undone one by one in an order, as their facts tell it.
use Rattle.std.specs.Prelude.{◌≡◌, List, [], ◌∷◌, true, Option, None, Some, Result, Ok, Err, if◌then◌else◌}
use Rattle.saved_steps.specs.World.{is_same_step}
use Rattle.saved_steps.specs.declared.fact.Fact.{Fact}
use Rattle.step_names.specs.declared.step.StepName.{StepName}
use Rattle.book_log.specs.Answers.{from_step, found_answer, remains}
use Rattle.book_log.specs.Log.{Log}
use Rattle.book_log.specs.declared.refusal.Refusal.{Refusal}

-- the first of these steps remains, if there is one
abbrev pub FirstRemains : Log → List StepName → Type 0
FirstRemains log [] = Unit {0}
FirstRemains log (name ∷ names) = remains log name ≡ true

-- the facts but that of the step of a name
abbrev pub facts_without : StepName → List Fact → List Fact
facts_without name [] = []
facts_without name (f ∷ fs) = if is_same_step name f.name then fs else f ∷ facts_without name fs

abbrev pub refused_or : Result StepName Refusal → Option Refusal → Option Refusal
refused_or (Ok name) rest = rest
refused_or (Err e) rest = Some e

-- why the first name that can't be undone at its turn can't be; the first argument says why, where its step doesn't remain
abbrev pub order_refusal : (StepName → Refusal) → List Fact → List StepName → Option Refusal
order_refusal gone fs [] = None
order_refusal gone fs (name ∷ names) = refused_or (found_answer (gone name) name (from_step name fs)) (order_refusal gone (facts_without name fs) names)
