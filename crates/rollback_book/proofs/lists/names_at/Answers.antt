use Rattle.std.proofs.Common.{◌∙◌}
use Rattle.rollback_book.proofs.Planning.{one_name}
use Rattle.rollback_book.proofs.lists.names_at.Goals as goal

pub get-requires : goal.get-requires
get-requires c = c.requires c.loop-place.place-index 0 c.loop-place-test.true

pub loop-place-preserved : goal.loop-place-preserved
loop-place-preserved c =
    let rs = c.args.records.now.items in
    let ps = c.args.places.now in
    let i = c.loop-place.place-index in
    one_name rs ps i c.get.result.now c.loop-place.names.items c.in_ok-copy.field-0 c.push.new.self.items c.loop-place-test.true c.get.ensures c.in_ok-copy.ensures c.in_ok-push.ensures.items ∙ c.loop-place.invariant
