use Rattle.std.proofs.Common.{sym, ◌∙◌}
use Rattle.depends.proofs.Again.{threads_again, under_again}
use Rattle.depends.proofs.marks.add_thread.Goals as goal

pub returns-then-has : goal.returns-then-has
returns-then-has c facts threads under =
    let there = sym (c.has.ensures facts threads) ∙ c.if-has.true in
    (threads_again facts c.args.fact.now there c.args.threads.now threads, under_again facts c.args.fact.now there c.args.under.now under)
