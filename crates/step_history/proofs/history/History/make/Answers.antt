use Rattle.step_history.specs.declared.history.History.{History}
use Rattle.step_history.proofs.Grown.{same_history, same_seen}
use Rattle.step_history.proofs.history.History.make.Goals as goal

pub returns-clause-history : goal.returns-clause-history
returns-clause-history c = λ s base ts is.
    let h = c.args.self.now in
    let g : History = record { world = c.make.new.self; records = c.reserve.new.self } in
    same_history s base ts h g (same_seen h.world g.world c.make.ensures.frames c.make.ensures.items) c.make.ensures.store c.reserve.ensures.items is
