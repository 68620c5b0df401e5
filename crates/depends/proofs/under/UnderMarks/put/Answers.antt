use Rattle.std.proofs.Common.{sym, ◌∙◌}
use Rattle.std.specs.BTreeMap.{get}
use Rattle.step_names.specs.Order.{step_cmp}
use Rattle.depends.proofs.Least.{least_kept, least_new}
use Rattle.depends.proofs.under.UnderMarks.put.Goals as goal

pub returns-then-has_before : goal.returns-then-has_before
returns-then-has_before c s test down = least_kept (get step_cmp c.args.self.now.least) c.args.above s test down (sym c.has_before.ensures ∙ c.if-has_before.true)

pub returns : goal.returns
returns c s test down = least_new (get step_cmp c.args.self.now.least) c.args.above s test down _ (sym c.has_before.ensures ∙ c.if-has_before.false) (c.in_ok-insert.ensures.updates.0 s)
