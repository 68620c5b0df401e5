use Rattle.std.proofs.Common.{sym, ◌∙◌}
use Rattle.std.proofs.lemmas.Result.{IfOk-weaker}
use Rattle.depends.proofs.Sought.{depends_for_above, depends_for_itself}
use Rattle.depends.proofs.marks.Marks.marks.Goals as goal

pub returns-then-branch : goal.returns-then-branch
returns-then-branch c facts are = depends_for_itself facts c.args.later.now (sym (c.in_ok-has_itself.ensures facts are) ∙ c.if-branch.true)

pub returns : goal.returns
returns c =
    IfOk-weaker c.has_above.result _ _
    (λ b told facts are. depends_for_above facts c.args.later.now b (sym (c.in_ok-has_itself.ensures facts are) ∙ c.if-branch.false) (told facts are))
    c.has_above.ensures
