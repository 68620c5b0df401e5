use Rattle.std.proofs.Common.{drop}
use Rattle.std.proofs.lemmas.List.{drop_all}
use Rattle.rollback_book.proofs.Kept.{removing_begins, removing_within, removing_goes_on, removing_ends}
use Rattle.rollback_book.proofs.hold.remove_each.Goals as goal

pub loop-place-init : goal.loop-place-init
loop-place-init c = removing_begins c.args.left.now c.args.places.now c.requires

pub remove-requires : goal.remove-requires
remove-requires c = removing_within c.args.left.now c.loop-place.left c.args.places.now c.loop-place.place-index c.loop-place-test.true c.loop-place.invariant

pub loop-place-preserved : goal.loop-place-preserved
loop-place-preserved c = removing_goes_on c.args.left.now c.loop-place.left c.remove.new.self c.args.places.now c.loop-place.place-index c.loop-place-test.true c.loop-place.invariant c.remove.ensures.marks c.remove.ensures.left

pub returns : goal.returns
returns c =
    let k = removing_ends c.args.left.now c.loop-place.left c.args.places.now (drop c.loop-place.place-index c.args.places.now) (drop_all c.loop-place.place-index c.args.places.now c.loop-place-test.false) c.loop-place.invariant in
    record { marks = k.0; left = k.1 }
