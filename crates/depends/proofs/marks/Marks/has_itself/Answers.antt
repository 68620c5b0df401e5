use Rattle.std.proofs.Common.{ap, sym, ◌∙◌}
use Rattle.std.specs.List.{list_any}
use Rattle.depends.specs.Kinds.{starts}
use Rattle.depends.proofs.Sought.{by_item, by_thread, or_by_start}
use Rattle.depends.proofs.marks.Marks.has_itself.Goals as goal

pub returns-then-has : goal.returns-then-has
returns-then-has c facts are = by_item facts c.args.later.now (sym (c.has.ensures facts are.keyed) ∙ c.if-has.true)

pub returns-then-has-2 : goal.returns-then-has-2
returns-then-has-2 c facts are = by_thread facts c.args.later.now (sym (c.has-2.ensures facts are.threads) ∙ c.if-has-2.true)

pub returns : goal.returns
returns c facts are =
    or_by_start facts c.args.later.now _ (sym (c.has.ensures facts are.keyed) ∙ c.if-has.false)
    (sym (c.has-2.ensures facts are.threads) ∙ c.if-has-2.false)
    (c.has-3.ensures facts are.started ∙ ap (λ e. list_any (starts e) facts) c.in_ok-exec.ensures)
