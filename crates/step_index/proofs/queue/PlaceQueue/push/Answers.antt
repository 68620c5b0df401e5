use Rattle.std.specs.BinaryHeap.{heap_items}
use Rattle.step_index.proofs.Queued.{one_of}
use Rattle.step_index.proofs.queue.PlaceQueue.push.Goals as goal

pub returns : goal.returns
returns c k = one_of (record { 0 = c.args.place }) (heap_items c.args.self.now.heap) (heap_items c.push.new.self) c.in_ok-push.ensures.permutation k
