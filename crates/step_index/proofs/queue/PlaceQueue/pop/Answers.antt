use Rattle.std.proofs.Common.{refl, sym, ◌∙◌}
use Rattle.std.specs.BinaryHeap.{heap_items, heap_len}
use Rattle.std.proofs.lemmas.Option.{IfSome_then}
use Rattle.step_index.proofs.Queued.{but_copy, but_top}
use Rattle.step_index.proofs.queue.PlaceQueue.pop.Goals as goal

pub loop-self-init : goal.loop-self-init
loop-self-init c = but_top c.in-Some.top.0 (heap_items c.args.self.now.heap) (heap_items c.pop.new.self) c.in-Some.top refl c.in-Some.ensures.permutation (c.in-Some.ensures.below_top c.args.self.now.ordered)

pub loop-self-preserved : goal.loop-self-preserved
loop-self-preserved c =
    but_copy c.in-Some.top.0 (heap_items c.args.self.now.heap) (heap_items c.loop-self.self.heap) (heap_items c.pop-in-loop-self.new.self) (heap_len c.pop-in-loop-self.new.self) (heap_len c.loop-self.self.heap) c.pop-in-loop-self.result c.loop-self.invariant
    (sym (c.begins_with.ensures c.loop-self.invariant.low) ∙ c.loop-self-test.true) c.pop-in-loop-self.ensures.permutation
    (IfSome_then c.pop-in-loop-self.result c.pop-in-loop-self.ensures.heap_order (λ x h. (h c.loop-self.self.ordered).1))
    c.pop-in-loop-self.ensures.unchanged
