use Rattle.step_index.proofs.Dependents.{found_by_name}
use Rattle.step_index.proofs.records.StepRecords.find.Goals as goal

pub returns : goal.returns
returns c =
    let i = c.self.inside in
    let found = c.first_named.ensures in
    rw (← c.self.view_is) (found_by_name i.records c.self.invariant c.args.name.now c.name_bucket.result c.first_named.result c.name_bucket.ensures.bucket found)
