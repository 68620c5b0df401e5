use Rattle.std.proofs.Common.{arith}
use Rattle.step_history.specs.declared.history.History.{History}
use Rattle.step_history.proofs.Left.{step_there, as_many, free_by, can_undo_at, undone_history}
use Rattle.step_history.proofs.history.History.undo.Goals as goal
use Rattle.saved_steps.specs.Held.{store_of}

pub undo-requires : goal.undo-requires
undo-requires c =
    let h = c.args.self.now in
    let k = c.requires.history in
    let many = as_many (store_of h.world) h.records.items k.2 k.3.records in
    let t = step_there k.2 c.args.at (omega (arith, c.requires.there, many)) in
    can_undo_at k.0 k.1 k.2 c.args.at t.0 h k.3 t.1 c.remove-record.result
    c.remove-record.ensures.taken
    (free_by k.0 k.1 k.2 c.args.at t.0 h k.3 t.1 c.requires.free)

pub returns : goal.returns
returns c = λ s base ts t is here.
    let h = c.args.self.now in
    let g : History = record { world = c.undo.new.self; records = c.remove-record.new.self } in
    undone_history s base ts c.args.at t h is here g c.remove-record.result
    c.remove-record.ensures.taken
    (free_by s base ts c.args.at t h is here c.requires.free) c.remove-record.ensures.items c.undo.ensures
