use Rattle.std.proofs.Common.{rules, inl}
use Rattle.explain.proofs.templates.absent.Goals as goal

pub invariant_of-result : goal.invariant_of-result
invariant_of-result c = record { picks_nothing = ∣ inl (search rules) ∣₁ }
