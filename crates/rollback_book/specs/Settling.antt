-- What was settled, as a book holds it: by its names.
use Rattle.std.specs.Prelude.{List, if◌then◌else◌}
use Rattle.step_history.specs.SettledNames.{is_name_among}
use Rattle.step_names.specs.declared.step.StepName.{StepName}
use Rattle.book_log.specs.declared.refusal.Refusal.{Refusal}
use Rattle.book_log.specs.declared.refusal.Refusal.TheVariants.{NoStep, Settled}

-- why a step that doesn't remain can't be taken back, where the steps of these names were settled
unfoldable pub absent_in : List StepName → StepName → Refusal
absent_in names name = if is_name_among name names then Settled else NoStep
