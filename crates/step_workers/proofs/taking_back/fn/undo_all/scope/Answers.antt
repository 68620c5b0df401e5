use denote.Param.Send.{param_send, param_sync}
use Rattle.step_workers.proofs.taking_back.fn.undo_all.scope.Goals as goal

pub run_undoers-requires-clause-bounds : goal.run_undoers-requires-clause-bounds
run_undoers-requires-clause-bounds g c = λ κs within.
    let r = c.requires in
    (param_send _ _ r.0, param_send _ _ r.1, param_sync _ _ r.2, param_sync _ _ r.3, param_sync _ _ r.4)
