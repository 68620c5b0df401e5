use Rattle.std.specs.BinaryHeap.{heap_items, heap_len}
use Rattle.step_index.proofs.Queued.{AreBut}
use Rattle.step_index.proofs.queue.PlaceQueue.pop.Given as goal

-- copies of the least place went, and no other
abbrev pub invariant-loop-self : goal.invariant-loop-self
invariant-loop-self l = AreBut l.place (heap_items l.fn.self.heap) (heap_items l.self.heap)

abbrev pub decreases-loop-self : goal.decreases-loop-self
decreases-loop-self l = heap_len l.self.heap
