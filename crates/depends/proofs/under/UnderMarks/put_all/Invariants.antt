use Rattle.std.proofs.Common.{◌≡◌, ◌++◌, ℕ, Bool}
use Rattle.std.specs.Prelude.{◌||◌}
use Rattle.std.specs.BTreeMap.{get}
use Rattle.std.specs.List.{list_any}
use Rattle.step_names.specs.Order.{step_cmp}
use Rattle.step_names.specs.declared.step.StepName.{StepName}
use Rattle.depends.specs.Above.{IsDownward, goes_by, passes}
use Rattle.depends.proofs.under.UnderMarks.put_all.Given as goal

abbrev pub invariant-loop-above : goal.invariant-loop-above
invariant-loop-above l = record {
  all : l.yielded ++ l.above-iterator.rest.items ≡ l.fn.forks.items;
  kept : (s : StepName) (test : ℕ → Bool) → IsDownward test → passes test (get step_cmp l.self.least s) ≡ (passes test (get step_cmp l.fn.self.least s) || list_any (goes_by s test) l.yielded);
}
