-- The world: what there is at a moment, and what steps don't change.
use Rattle.std.specs.Prelude.{ℕ, List, Bool, Option, ◌&&◌, ◌==◌}
use Rattle.std.specs.Ordering.{eq_by_cmp}
use Rattle.branch_tree.specs.Definition.{Definition}
use Rattle.branch_tree.specs.Frame.{Frame}
use Rattle.attr_values.specs.declared.key.KeySchema.{KeySchema}
use Rattle.item_store.specs.Table.{Table}
use Rattle.step_names.specs.Order.{thread_cmp}
use Rattle.step_names.specs.Thread.{Thread}
use Rattle.step_names.specs.declared.step.StepName.{StepName}

-- The machines by name, the name of the table, and which attributes its keys have. No step changes these.
pub record Setting : Type 0 where
  pub machines : List ℕ → Option Definition
  pub table : List ℕ
  pub schema : KeySchema

-- The frames by thread, and the items by key. The frames are one flat map: a thread of a branch stands beside the thread that
-- forked it.
pub record World : Type 0 where
  pub frames : Thread → Option Frame
  pub items : Table

abbrev pub is_same_thread : Thread → Thread → Bool
is_same_thread = eq_by_cmp thread_cmp

abbrev pub is_same_step : StepName → StepName → Bool
is_same_step a b = is_same_thread a.thread b.thread && a.no == b.no
