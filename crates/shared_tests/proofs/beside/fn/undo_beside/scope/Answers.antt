use denote.Param.Send.{param_send, param_sync}
use Rattle.shared_tests.proofs.beside.fn.undo_beside.scope.Goals as goal

pub run_beside-requires-clause-bounds : goal.run_beside-requires-clause-bounds
run_beside-requires-clause-bounds g c = λ κs within.
    let r = c.requires in
    (param_send _ _ r.0, param_send _ _ r.1, param_sync _ _ r.2, param_sync _ _ r.3)
