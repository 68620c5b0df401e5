use Rattle.std.proofs.Common.{◌∷◌, List, ap, sym, ◌∙◌}
use Rattle.saved_steps.specs.declared.record.StepRecord.{StepRecord}
use Rattle.step_index.proofs.Listed.{first_out}
use Rattle.step_index.proofs.records.StepRecords.take_first.Goals as goal

pub returns : goal.returns
returns c =
    let r = c.remove.result in
    first_out c.args.self.now.items r c.remove.ensures.taken ∙ ap (λ (l : List StepRecord). r ∷ l) (sym c.remove.ensures.items)
