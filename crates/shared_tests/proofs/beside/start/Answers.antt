use Rattle.std.proofs.Common.{ℕ, List, [], ◌∷◌}
use mir.Syntax.{named}
use denote.Exit.{no}
use denote.Param.{param}
use denote.Param.Send.{IsSend, IsSync, arg_send, param_send, recorded_send, sendable, shr_send, struct_send}
use denote.RattleType.{RattleType}
use denote.Struct.Declared.{shape}
use denote.Struct.Field.{shr_ref_field}
use denote.Struct.Tuple.{TupleAt, field_at, type_at}
use Rattle.std.proofs.alloc.Global.TheSendSync as heap
use Rattle.std.specs.contracts.alloc.Global as global
use Rattle.shared_book.proofs.shared.Shared.TheSendSync as shared_sync
use Rattle.step_workers.proofs.Crossing.{within}
use Rattle.shared_book.specs.contracts.pass.Pass as pass
use Rattle.shared_book.specs.contracts.shared.Shared as shared
use Rattle.shared_tests.specs.contracts.beside.Undone as undone
use Rattle.shared_tests.proofs.beside.start.Goals as goal

-- what a closure captured is sent as a tuple
four_send : (name : List ℕ) (A B C D : RattleType) → IsSend A → IsSend B → IsSend C → IsSend D → IsSend (TupleAt name (A ∷ B ∷ C ∷ D ∷ []))
four_send name A B C D a b c d =
    let fields = A ∷ B ∷ C ∷ D ∷ [] in
    recorded_send (field_at name fields).row _ _ (type_at name fields).to_one (struct_send (shape (type_at name fields)) (a, (b, (c, (d, tt)))))

pass_sent : (L : RattleType) (ledger : _) → IsSend L → IsSend (pass.the_row L ledger)
pass_sent L ledger it = search within depth 60 fits 20000

undone_sent : (L : RattleType) (ledger : _) → IsSend L → IsSend (undone.the_row L ledger)
undone_sent L ledger it = search within depth 60 fits 20000

-- the closure captured the handle of the threads, the allocator, the book and the pass
pub spawn-requires-send-F : goal.spawn-requires-send-F
spawn-requires-send-F g c = λ κs inside.
    let b = c.type_bounds in
    let name = 115 ∷ 104 ∷ 97 ∷ 114 ∷ 101 ∷ 100 ∷ 95 ∷ 116 ∷ 101 ∷ 115 ∷ 116 ∷ 115 ∷ 58 ∷ 58 ∷ 98 ∷ 101 ∷ 115 ∷ 105 ∷ 100 ∷ 101 ∷ 58 ∷ 58 ∷ 102 ∷ 110 ∷ 58 ∷ 58 ∷ 115 ∷ 116 ∷ 97 ∷ 114 ∷ 116 ∷ 58 ∷ 58 ∷ 115 ∷ 112 ∷ 97 ∷ 119 ∷ 110 ∷ 43 ∷ 83 ∷ 101 ∷ 108 ∷ 102 ∷ [] in
    let rt = (shr_ref_field (record { mir = named 5; lft = κs.1.1.1.1.1.0 }) (param 3 g.row.R) tt).row in
    let book = (shr_ref_field (record { mir = named 6; lft = κs.1.1.1.1.1.1.0 }) (shared.the_row (param 1 g.row.B) (param 2 g.row.L) g.B.Events g.L.Sharing g.L.Ledger) tt).row in
    let mine = pass.the_row (param 2 g.row.L) g.L.Ledger in
    param_send 1 _ (arg_send _ no (TupleAt name (rt ∷ global.the_row ∷ book ∷ mine ∷ [])) (four_send name rt global.the_row book mine
    (shr_send _ _ _ b.sync-R) heap.the_send (shr_send _ _ _ (shared_sync.the_sync (param 1 g.row.B) (param 2 g.row.L) g.B.Events g.L.Sharing g.L.Ledger b.send-B)) (pass_sent _ _ b.send-L)))

pub spawn-requires-send-T : goal.spawn-requires-send-T
spawn-requires-send-T g c = λ κs inside. search (undone_sent, c.type_bounds, within) depth 60 fits 20000
