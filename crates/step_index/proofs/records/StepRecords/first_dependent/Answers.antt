use Rattle.std.proofs.Common.{◌∙◌}
use Rattle.step_index.proofs.Dependents.{first_of_all}
use Rattle.step_index.proofs.Listed.{there}
use Rattle.step_index.proofs.records.StepRecords.first_dependent.Goals as goal

pub returns : goal.returns
returns c =
    let rs = c.args.self.now.items in
    let f = there rs c.args.at c.requires in
    c.earlier.ensures
    ∙ first_of_all rs c.args.at f.0 f.1 c.first_in_execution.result c.first_conflict.result (c.first_in_execution.ensures f.0 f.1) (c.first_conflict.ensures f.0 f.1)
