use Rattle.std.proofs.Common.{◌≤◌, arith, length, ap, ◌∙◌}
use Rattle.std.proofs.lemmas.List.{take_all}
use Rattle.depends.proofs.Searching.{facts}
use Rattle.rollback_book.proofs.Looking.{one_fact}
use Rattle.rollback_book.proofs.ordering.outline.Goals as goal

pub loop-place-preserved : goal.loop-place-preserved
loop-place-preserved c =
    one_fact c.args.records.now.items c.loop-place.left.items c.add_outline.new.left.items c.get.result.now _ c.loop-place.place c.get.ensures c.in_ok-fact.ensures c.in_ok-add_outline.ensures c.loop-place.invariant

pub returns : goal.returns
returns c =
    let rs = c.args.records.now.items in
    let past : length rs ≤ c.loop-place.place = omega arith in
    c.loop-place.invariant ∙ ap facts (take_all c.loop-place.place rs past)
