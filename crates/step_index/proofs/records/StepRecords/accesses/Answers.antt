use Rattle.step_index.specs.Records.{classes_in}
use Rattle.step_index.specs.declared.buckets.Classing.TheVariants.{Keys}
use Rattle.step_index.proofs.Collecting.{access_in_class}
use Rattle.step_index.proofs.records.StepRecords.accesses.Goals as goal

pub returns : goal.returns
returns c =
    let v = c.self.inside.records in
    rw (← c.self.view_is)
    (c.gathered_accesses.ensures (access_in_class c.args.key.now (classes_in v Keys) v.items c.key_bucket.result (c.self.invariant.classed Keys) c.key_bucket.ensures.bucket))
