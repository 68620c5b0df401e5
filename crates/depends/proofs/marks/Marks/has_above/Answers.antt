use Rattle.std.proofs.Common.{sym, ◌∙◌}
use Rattle.depends.proofs.Sought.{by_close, by_fork, or_by_bound}
use Rattle.depends.proofs.marks.Marks.has_above.Goals as goal

pub returns-then-branch : goal.returns-then-branch
returns-then-branch c facts are = by_close facts c.args.later.now (sym (c.in_ok-has_closed.ensures facts are.lay) ∙ c.if-branch.true)

pub returns-then-has_above : goal.returns-then-has_above
returns-then-has_above c facts are = by_fork facts c.args.later.now (sym (c.has_above.ensures facts c.args.later.now.name.thread are.forked (c.as_slice.ensures.value ∙ c.in_ok-above.ensures)) ∙ c.if-has_above.true)

pub returns : goal.returns
returns c facts are =
    or_by_bound facts c.args.later.now _ (sym (c.has_above.ensures facts c.args.later.now.name.thread are.forked (c.as_slice.ensures.value ∙ c.in_ok-above.ensures)) ∙ c.if-has_above.false)
    (sym (c.in_ok-has_closed.ensures facts are.lay) ∙ c.if-branch.false)
    (c.has_awaited.ensures facts are.lay)
