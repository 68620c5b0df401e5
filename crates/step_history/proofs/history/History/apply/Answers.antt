use Rattle.step_history.specs.declared.history.History.{History}
use Rattle.step_history.proofs.Grown.{grown}
use Rattle.step_history.proofs.history.History.apply.Goals as goal

pub returns : goal.returns
returns c = λ s base ts step d is does made.
    let h = c.args.self.now in
    let r = c.apply-record.result in
    let g : History = record { world = c.apply-record.new.self; records = c.push.new.self } in
    grown s base ts step d h g c.args.made r is does made c.apply-record.ensures c.push.ensures
