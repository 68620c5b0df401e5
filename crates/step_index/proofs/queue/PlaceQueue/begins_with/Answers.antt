use Rattle.std.proofs.Common.{Some, ap, sym, ◌∙◌}
use Rattle.std.specs.BinaryHeap.{heap_items}
use Rattle.std.proofs.lemmas.Option.{slice_get-get_or}
use Rattle.step_index.proofs.Queued.{first_is_there}
use Rattle.step_index.proofs.queue.PlaceQueue.begins_with.Goals as goal

pub returns-in-Some : goal.returns-in-Some
returns-in-Some c low =
    let items = heap_items c.args.self.now.heap in
    let first = c.in-Some.ensures.item in
    first_is_there c.in-Some.top.now items c.args.place (slice_get-get_or items 0 c.in-Some.top.now first.3.0 ∙ ap Some (sym first.1)) (c.in-Some.ensures.greatest c.args.self.now.ordered) low
