use Rattle.std.proofs.Common.{rules, inr}
use Rattle.explain.proofs.templates.absent_in_item.Goals as goal

pub invariant_of-result : goal.invariant_of-result
invariant_of-result c = record { picks_nothing = ∣ inr (c.args.steps.now, search rules, search rules) ∣₁ }
