use Rattle.step_history.specs.declared.history.History.{History}
use Rattle.step_history.proofs.Grown.{empty_history}
use Rattle.step_history.proofs.history.History.new.Goals as goal

pub returns : goal.returns
returns c = λ s table schema.
    let h : History = record { world = c.new.result; records = c.new-2.result } in
    empty_history s c.args.items h c.new.ensures.frames c.new.ensures.items c.new-2.ensures table schema
