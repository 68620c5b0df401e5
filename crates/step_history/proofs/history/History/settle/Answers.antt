use Rattle.std.proofs.Common.{refl}
use Rattle.step_history.specs.declared.history.History.{History}
use Rattle.step_history.proofs.Settled.{settled_history}
use Rattle.step_history.proofs.history.History.settle.Goals as goal

pub returns-clause-history : goal.returns-clause-history
returns-clause-history c = λ s base ts is.
    let h = c.args.self.now in
    let g : History = record { world = h.world; records = c.take_all-taken.new.self } in
    settled_history s base ts h g is refl c.take_all-taken.ensures.items
