use Rattle.std.proofs.Common.{[], ◌∷◌}
use mir.Syntax.{named}
use denote.Exit.{no}
use denote.Param.{param}
use denote.Param.Send.{arg_send, param_send, shr_send}
use denote.Struct.Field.{shr_ref_field}
use denote.Struct.Tuple.{TupleAt}
use Rattle.std.proofs.alloc.Global.TheSendSync as heap
use Rattle.std.specs.contracts.alloc.Global as global
use Rattle.shared_book.proofs.shared.Shared.TheSendSync as shared_sync
use Rattle.shared_book.specs.contracts.shared.Shared as shared
use Rattle.std.proofs.sync.atomic.AtomicU64.TheSendSync as atomic_sync
use Rattle.std.specs.contracts.sync.atomic.AtomicU64 as atomic
use Rattle.step_workers.specs.contracts.undoing.Undoer as undoer
use Rattle.step_workers.proofs.Crossing.{six_send, undoer_send, undone_send, within}
use Rattle.step_workers.proofs.taking_back.start.Goals as goal

-- the closure captured the handle of the threads, the allocator, the book, who couldn't be started, the gate and the undoer
pub spawn_with-requires-send-F : goal.spawn_with-requires-send-F
spawn_with-requires-send-F g c = λ κs inside.
    let b = c.type_bounds in
    let name = 115 ∷ 116 ∷ 101 ∷ 112 ∷ 95 ∷ 119 ∷ 111 ∷ 114 ∷ 107 ∷ 101 ∷ 114 ∷ 115 ∷ 58 ∷ 58 ∷ 116 ∷ 97 ∷ 107 ∷ 105 ∷ 110 ∷ 103 ∷ 95 ∷ 98 ∷ 97 ∷ 99 ∷ 107 ∷ 58 ∷ 58 ∷ 102 ∷ 110 ∷ 58 ∷ 58 ∷ 115 ∷ 116 ∷ 97 ∷ 114 ∷ 116 ∷ 58 ∷ 58 ∷ 115 ∷ 112 ∷ 97 ∷ 119 ∷ 110 ∷ 95 ∷ 119 ∷ 105 ∷ 116 ∷ 104 ∷ 43 ∷ 83 ∷ 101 ∷ 108 ∷ 102 ∷ [] in
    let rt = (shr_ref_field (record { mir = named 6; lft = κs.1.1.1.1.1.1.0 }) (param 4 g.row.R) tt).row in
    let book = (shr_ref_field (record { mir = named 7; lft = κs.1.1.1.1.1.1.1.0 }) (shared.the_row (param 1 g.row.B) (param 2 g.row.L) g.B.Events g.L.Sharing g.L.Ledger) tt).row in
    let unstarted = (shr_ref_field (record { mir = named 8; lft = κs.1.1.1.1.1.1.1.1.0 }) atomic.the_row tt).row in
    let gate = (shr_ref_field (record { mir = named 9; lft = κs.1.1.1.1.1.1.1.1.1.0 }) (param 3 g.row.G) tt).row in
    let place = undoer.the_row (param 2 g.row.L) g.L.Ledger in
    param_send 2 _ (arg_send _ no (TupleAt name (rt ∷ global.the_row ∷ book ∷ unstarted ∷ gate ∷ place ∷ [])) (six_send name rt global.the_row book unstarted gate place
    (shr_send _ _ _ b.sync-R) heap.the_send (shr_send _ _ _ (shared_sync.the_sync (param 1 g.row.B) (param 2 g.row.L) g.B.Events g.L.Sharing g.L.Ledger b.send-B)) (shr_send _ _ _ atomic_sync.the_sync) (shr_send _ _ _ b.sync-G) (undoer_send _ _ b.send-L)))

pub spawn_with-requires-send-T : goal.spawn_with-requires-send-T
spawn_with-requires-send-T g c = λ κs inside. search (undone_send, c.type_bounds, within) depth 60 fits 20000
