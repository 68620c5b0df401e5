-- The step that is asked for and its causes that were found are open.
use Rattle.std.specs.Prelude.{ℕ, List, ◌∷◌}
use Rattle.saved_steps.specs.declared.record.StepRecord.{StepRecord}
use Rattle.step_graph.specs.Causes.{is_in}
use Rattle.step_graph.specs.Opened.{AreOpen}
use Rattle.step_graph.specs.declared.opened.OpenPlaces.{OpenPlaces}

abbrev pub OpensMembers : List StepRecord → ℕ → List ℕ → OpenPlaces → Type 0
OpensMembers rs at found places = AreOpen rs (λ m. is_in m (at ∷ found)) places.execs places.keys
