use Rattle.std.proofs.Common.{ap, sym, ◌∙◌}
use Rattle.std.specs.Prelude.{◌&&◌}
use Rattle.std.specs.Ordering.{eq_by_cmp}
use Rattle.step_names.specs.Order.{step_cmp}
use Rattle.depends.specs.Kinds.{is_fork_named}
use Rattle.depends.proofs.Anyone.{not_more}
use Rattle.depends.proofs.Noted.{put_named}
use Rattle.depends.proofs.forks.ForkMarks.add.Goals as goal

pub returns-then-not-is_fork : goal.returns-then-not-is_fork
returns-then-not-is_fork c facts are s = not_more (is_fork_named s) facts c.args.fact.now _ (ap (λ b. b && eq_by_cmp step_cmp c.args.fact.now.name s) (sym c.is_fork.ensures ∙ c.if-not-is_fork.true)) (are s)

pub returns : goal.returns
returns c facts are s =
    put_named step_cmp is_fork_named facts c.args.fact.now _ c.args.fact.now.name s _ _ (c.in_ok-insert.ensures.updates.0 s) c.in_ok-copy.ensures
    (ap (λ b. b && eq_by_cmp step_cmp c.args.fact.now.name s) (sym c.is_fork.ensures ∙ c.if-not-is_fork.false)) (are s)
