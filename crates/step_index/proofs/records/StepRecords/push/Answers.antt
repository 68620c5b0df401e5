use Rattle.std.proofs.Common.{ap, ◌∙◌}
use Rattle.linked_classes.specs.Cells.{cell_at}
use Rattle.step_index.specs.Buckets.{by_set, set_number}
use Rattle.step_index.specs.Records.{classes_in}
use Rattle.step_index.proofs.Listed.{in_order, one_more, set_below}
use Rattle.step_index.proofs.records.StepRecords.push.Goals as goal

pub invariant_of-self : goal.invariant_of-self
invariant_of-self c =
    let v = c.self.inside.records in
    let cs = c.all_classes-classes.result in
    record {
      classed = λ set. rw c.push.ensures.items
          (c.push.ensures.sets (set_number set) (set_below set)
          ∙ one_more (by_set set) v.items c.args.kept (classes_in v set) (cell_at cs (set_number set)) (c.self.invariant.classed set) (ap (λ l. cell_at l (set_number set)) c.all_classes-classes.ensures.classes ∙ in_order set c.args.kept.fact));
    }
