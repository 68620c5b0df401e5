use Rattle.std.proofs.Common.{ap, ◌∙◌}
use Rattle.std.specs.BTreeSet.{contains}
use Rattle.std.specs.List.{list_any}
use Rattle.step_names.specs.Order.{step_cmp}
use Rattle.depends.proofs.Sought.{made_above}
use Rattle.depends.proofs.forks.ForkMarks.has_above.Goals as goal

pub returns : goal.returns
returns c facts t are above = c.has_one.ensures ∙ ap (list_any (λ x. contains step_cmp c.args.self.now.names x.fork)) above ∙ made_above facts c.args.self.now t are
