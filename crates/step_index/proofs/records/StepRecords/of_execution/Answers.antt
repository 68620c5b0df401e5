use Rattle.step_index.specs.Records.{classes_in}
use Rattle.step_index.specs.declared.buckets.Classing.TheVariants.{Execs}
use Rattle.step_index.proofs.Collecting.{of_in_class}
use Rattle.step_index.proofs.records.StepRecords.of_execution.Goals as goal

pub returns : goal.returns
returns c =
    let v = c.self.inside.records in
    rw (← c.self.view_is)
    (c.gathered_of.ensures (of_in_class c.args.exec.now (classes_in v Execs) v.items c.exec_bucket.result (c.self.invariant.classed Execs) c.exec_bucket.ensures.bucket))
