use Rattle.std.proofs.Common.{◌∙◌}
use Rattle.saved_steps.proofs.laws.taken_back.Goals as goal

pub returns-clause-same : goal.returns-clause-same
returns-clause-same c = c.undo.ensures.world ∙ c.apply-taken.ensures.back

pub returns-clause-store : goal.returns-clause-store
returns-clause-store c =
    let a = c.apply-taken.ensures.store in
    let b = c.undo.ensures.store in
    record { slots = λ n key h. b.slots n key (a.slots n key h); table = b.table ∙ a.table; schema = b.schema ∙ a.schema }
