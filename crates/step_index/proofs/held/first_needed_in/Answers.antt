use Rattle.std.proofs.Common.{◌≡◌, List, Some, subst}
use Rattle.saved_steps.specs.declared.record.StepRecord.{StepRecord as Kept}
use Rattle.linked_classes.specs.Cells.{cell_at}
use Rattle.linked_classes.specs.Sets.{set_of}
use Rattle.step_index.specs.Walks.{IsFirstFrom, needed_by}
use Rattle.step_index.proofs.held.first_needed_in.Goals as goal

pub returns-clause-first : goal.returns-clause-first
returns-clause-first c =
    subst (λ (rs : List Kept). IsFirstFrom (λ k. cell_at (set_of c.args.steps.now c.args.set) k ≡ Some c.args.class) (needed_by c.args.later.now) rs 0 c.first_needed_in.result)
    c.listed.ensures c.first_needed_in.ensures.first
