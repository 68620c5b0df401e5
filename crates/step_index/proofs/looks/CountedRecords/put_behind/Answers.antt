use Rattle.std.proofs.Common.{List, Option, ℕ, subst}
use Rattle.std.specs.BinaryHeap.{heap_items}
use Rattle.std.specs.Prelude.{OnOk}
use Rattle.step_index.specs.Due.{IsBehind, IsGrown}
use Rattle.step_index.specs.Queue.{has_place}
use Rattle.step_index.proofs.looks.CountedRecords.put_behind.Goals as goal

pub returns-clause-grown : goal.returns-clause-grown
returns-clause-grown c =
    rw (← c.self.view_is)
    (subst (λ (cs : List (Option ℕ)). OnOk c.put_behind.result (IsGrown (IsBehind cs c.args.class c.args.at) (has_place (heap_items c.args.due.now.heap)) (has_place (heap_items c.put_behind.new.due.heap)))) (c.self.invariant.classed c.args.by) c.put_behind.ensures.grown)
