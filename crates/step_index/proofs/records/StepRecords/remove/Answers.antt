use Rattle.std.proofs.Common.{◌∙◌}
use Rattle.step_index.specs.Buckets.{by_set, set_number}
use Rattle.step_index.specs.Records.{classes_in}
use Rattle.step_index.proofs.Listed.{one_less, set_below}
use Rattle.step_index.proofs.records.StepRecords.remove.Goals as goal

pub invariant_of-self : goal.invariant_of-self
invariant_of-self c =
    let v = c.self.inside.records in
    record {
      classed = λ set. rw c.remove.ensures.items (c.remove.ensures.sets (set_number set) (set_below set) ∙ one_less (by_set set) v.items c.args.at (classes_in v set) (c.self.invariant.classed set));
    }
