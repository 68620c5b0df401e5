-- What the threads of a round share and are given may be shared and sent.
use denote.RattleType.{RattleType}
use denote.Param.Send.{IsSend, IsSync, recorded_send, sendable, struct_send}
use denote.Struct.Declared.{shape}
use denote.Struct.Tuple.{TupleAt, field_at, type_at}
use Rattle.std.proofs.Common.{ℕ, List, [], ◌∷◌}
use Rattle.asl_states.proofs.choice.Comparison.TheSendSync as s_asl_states_Comparison
use Rattle.asl_states.proofs.choice.Relation.TheSendSync as s_asl_states_Relation
use Rattle.asl_states.proofs.definition_fields.MachineFault.TheSendSync as s_asl_states_MachineFault
use Rattle.asl_errors.proofs.errors.Catcher.TheSendSync as s_asl_errors_Catcher
use Rattle.asl_errors.proofs.errors.Catchers.TheSendSync as s_asl_errors_Catchers
use Rattle.asl_errors.proofs.errors.ErrorHandling.TheSendSync as s_asl_errors_ErrorHandling
use Rattle.asl_errors.proofs.errors.ErrorNames.TheSendSync as s_asl_errors_ErrorNames
use Rattle.asl_errors.proofs.errors.Retrier.TheSendSync as s_asl_errors_Retrier
use Rattle.asl_errors.proofs.errors.Retriers.TheSendSync as s_asl_errors_Retriers
use Rattle.asl_frames.proofs.frame.Fault.TheSendSync as s_asl_frames_Fault
use Rattle.asl_frames.proofs.frame.Origin.TheSendSync as s_asl_frames_Origin
use Rattle.asl_frames.proofs.frame.Retries.TheSendSync as s_asl_frames_Retries
use Rattle.asl_states.proofs.state.Fail.TheSendSync as s_asl_states_Fail
use Rattle.asl_states.proofs.state.Resource.TheSendSync as s_asl_states_Resource
use Rattle.asl_states.proofs.state.Transition.TheSendSync as s_asl_states_Transition
use Rattle.asl_tree.proofs.level.Level.TheSendSync as s_asl_tree_Level
use Rattle.asl_tree.proofs.level.LevelPath.TheSendSync as s_asl_tree_LevelPath
use Rattle.asl_tree.proofs.level.LevelStep.TheSendSync as s_asl_tree_LevelStep
use Rattle.book_log.proofs.refusal.Refusal.TheSendSync as s_book_log_Refusal
use Rattle.book_log.proofs.step_names_list.StepNames.TheSendSync as s_book_log_StepNames
use Rattle.branch_tree.proofs.readiness.Readiness.TheSendSync as s_branch_tree_Readiness
use Rattle.json_tree.proofs.short.Short.TheSendSync as s_json_tree_Short
use Rattle.json_tree.proofs.text.Text.TheSendSync as s_json_tree_Text
use Rattle.json_tree.proofs.text.TextBytes.TheSendSync as s_json_tree_TextBytes
use Rattle.json_tree.proofs.told.Told.TheSendSync as s_json_tree_Told
use Rattle.ref_paths.proofs.path.PathStep.TheSendSync as s_ref_paths_PathStep
use Rattle.ref_paths.proofs.path.RefPath.TheSendSync as s_ref_paths_RefPath
use Rattle.saved_steps.proofs.fact.Kind.TheSendSync as s_saved_steps_Kind
use Rattle.shared_book.proofs.desk.Desk.TheSendSync as s_shared_book_Desk
use Rattle.shared_book.proofs.shared.Shared.TheSendSync as s_shared_book_Shared
use Rattle.slip_queue.below.atomic_table.proofs.owned.Table.TheSendSync as s_slip_queue_Table_atomic_table
use Rattle.slip_queue.below.atomic_table.proofs.send_lease.SendLease.TheSendSync as s_slip_queue_SendLease_atomic_table
use Rattle.slip_queue.below.atomic_table.proofs.shared.Seat.TheSendSync as s_slip_queue_Seat_atomic_table
use Rattle.slip_queue.below.atomic_table.proofs.shared.Shared.TheSendSync as s_slip_queue_Shared_atomic_table
use Rattle.slip_queue.below.crossbeam_queue.proofs.array_queue.Doing.TheSendSync as s_slip_queue_Doing_crossbeam_queue
use Rattle.slip_queue.below.crossbeam_queue.proofs.array_queue.Slotted.TheSendSync as s_slip_queue_Slotted_crossbeam_queue
use Rattle.slip_queue.below.crossbeam_queue.proofs.array_queue.Stage.TheSendSync as s_slip_queue_Stage_crossbeam_queue
use Rattle.slip_queue.below.crossbeam_queue.proofs.array_queue.Turns.TheSendSync as s_slip_queue_Turns_crossbeam_queue
use Rattle.slip_queue.proofs.hand.Balance.TheSendSync as s_slip_queue_Balance
use Rattle.slip_queue.proofs.hand.Hand.TheSendSync as s_slip_queue_Hand
use Rattle.slip_queue.proofs.slips.Slip.TheSendSync as s_slip_queue_Slip
use Rattle.slip_queue.proofs.slips.Slips.TheSendSync as s_slip_queue_Slips
use Rattle.slip_queue.proofs.taker.Taker.TheSendSync as s_slip_queue_Taker
use Rattle.std.below.std_collections.proofs.btree.node.Node.TheSendSync as s_std_Node_std_collections
use Rattle.std.below.std_collections.proofs.btree.node.root.Root.TheSendSync as s_std_Root_std_collections
use Rattle.std.below.std_collections.proofs.btree.tree.Tree.TheSendSync as s_std_Tree_std_collections
use Rattle.std.below.std_collections.proofs.linked_list.nodes.Nodes.TheSendSync as s_std_Nodes_std_collections
use Rattle.std.proofs.Crossing
use Rattle.std.proofs.MapsCrossing
use Rattle.std.proofs.alloc.Global.TheSendSync as s_std_Global
use Rattle.std.proofs.boxed.Box.TheSendSync as s_std_Box
use Rattle.std.proofs.cell.UnsafeCell.TheSendSync as s_std_UnsafeCell
use Rattle.std.proofs.collections.BTreeMap.TheSendSync as s_std_BTreeMap
use Rattle.std.proofs.collections.BTreeSet.TheSendSync as s_std_BTreeSet
use Rattle.std.proofs.collections.LinkedList.TheSendSync as s_std_LinkedList
use Rattle.std.proofs.marker.PhantomData.TheSendSync as s_std_PhantomData
use Rattle.std.proofs.option.Option.TheSendSync as s_std_Option
use Rattle.std.proofs.result.Result.TheSendSync as s_std_Result
use Rattle.std.proofs.rt.Memory.TheSendSync as s_std_Memory
use Rattle.std.proofs.string.String.TheSendSync as s_std_String
use Rattle.std.proofs.sync.Arc.TheSendSync as s_std_Arc
use Rattle.std.proofs.sync.Mutex.TheSendSync as s_std_Mutex
use Rattle.std.proofs.sync.atomic.AtomicU64.TheSendSync as s_std_AtomicU64
use Rattle.std.proofs.sync.atomic.Ordering.TheSendSync as s_std_Ordering
use Rattle.std.proofs.sync.ledger.Book.TheSendSync as s_std_Book
use Rattle.std.proofs.sync.ledger.Share.TheSendSync as s_std_Share
use Rattle.std.proofs.thread.Scope.TheSendSync as s_std_Scope
use Rattle.std.proofs.thread.SpawnError.TheSendSync as s_std_SpawnError
use Rattle.std.proofs.vec.Vec.TheSendSync as s_std_Vec
use Rattle.step_names.proofs.exec_name.ExecBytes.TheSendSync as s_step_names_ExecBytes
use Rattle.step_names.proofs.exec_name.ExecName.TheSendSync as s_step_names_ExecName
use Rattle.step_names.proofs.step.StepName.TheSendSync as s_step_names_StepName
use Rattle.step_names.proofs.thread.ThreadName.TheSendSync as s_step_names_ThreadName
use Rattle.step_workers.specs.contracts.board.Board as board
use Rattle.step_workers.specs.contracts.seat.Seat as seat
use Rattle.step_workers.specs.contracts.seat.Served as served
use Rattle.step_workers.specs.contracts.undoing.Undoer as undoer
use Rattle.step_workers.specs.contracts.undoing.Undone as undone
use Rattle.step_workers.proofs.Sending.{entry_field_send, entry_field_sync, entry_send, entry_sync, receipt_field_send, receipt_field_sync, receipt_send, receipt_sync, refusal_field_send, refusal_field_sync, refusal_send, refusal_sync, ticket_field_send, ticket_field_sync, ticket_send, ticket_sync}

pub ruleset within = (ticket_send, ticket_sync, ticket_field_send, ticket_field_sync, receipt_send, receipt_sync, receipt_field_send, receipt_field_sync, refusal_send, refusal_sync, refusal_field_send, refusal_field_sync, s_asl_states_Comparison.the_field_send, s_asl_states_Comparison.the_send, s_asl_states_Comparison.the_field_sync, s_asl_states_Comparison.the_sync, s_asl_states_Relation.the_field_send, s_asl_states_Relation.the_send, s_asl_states_Relation.the_field_sync, s_asl_states_Relation.the_sync, s_asl_errors_Catcher.the_field_send, s_asl_errors_Catcher.the_send, s_asl_errors_Catcher.the_field_sync, s_asl_errors_Catcher.the_sync, s_asl_errors_Catchers.the_send, s_asl_errors_Catchers.the_sync, s_asl_errors_ErrorHandling.the_field_send, s_asl_errors_ErrorHandling.the_send, s_asl_errors_ErrorHandling.the_field_sync, s_asl_errors_ErrorHandling.the_sync, s_asl_errors_ErrorNames.the_send, s_asl_errors_ErrorNames.the_sync, s_asl_errors_Retrier.the_field_send, s_asl_errors_Retrier.the_send, s_asl_errors_Retrier.the_field_sync, s_asl_errors_Retrier.the_sync, s_asl_errors_Retriers.the_send, s_asl_errors_Retriers.the_sync, s_asl_states_MachineFault.the_field_send, s_asl_states_MachineFault.the_send, s_asl_states_MachineFault.the_field_sync, s_asl_states_MachineFault.the_sync, s_asl_frames_Fault.the_field_send, s_asl_frames_Fault.the_send, s_asl_frames_Fault.the_field_sync, s_asl_frames_Fault.the_sync, s_asl_frames_Origin.the_field_send, s_asl_frames_Origin.the_send, s_asl_frames_Origin.the_field_sync, s_asl_frames_Origin.the_sync, s_asl_frames_Retries.the_send, s_asl_frames_Retries.the_sync, s_asl_states_Fail.the_field_send, s_asl_states_Fail.the_send, s_asl_states_Fail.the_field_sync, s_asl_states_Fail.the_sync, s_asl_states_Resource.the_field_send, s_asl_states_Resource.the_send, s_asl_states_Resource.the_field_sync, s_asl_states_Resource.the_sync, s_asl_states_Transition.the_field_send, s_asl_states_Transition.the_send, s_asl_states_Transition.the_field_sync, s_asl_states_Transition.the_sync, s_asl_tree_Level.the_field_send, s_asl_tree_Level.the_send, s_asl_tree_Level.the_field_sync, s_asl_tree_Level.the_sync, s_asl_tree_LevelPath.the_send, s_asl_tree_LevelPath.the_sync, s_asl_tree_LevelStep.the_field_send, s_asl_tree_LevelStep.the_send, s_asl_tree_LevelStep.the_field_sync, s_asl_tree_LevelStep.the_sync, s_slip_queue_Seat_atomic_table.the_send, s_slip_queue_Shared_atomic_table.the_send, s_slip_queue_Shared_atomic_table.the_sync, s_book_log_Refusal.the_field_send, s_book_log_Refusal.the_send, s_book_log_Refusal.the_field_sync, s_book_log_Refusal.the_sync, s_book_log_StepNames.the_send, s_book_log_StepNames.the_sync, s_branch_tree_Readiness.the_field_send, s_branch_tree_Readiness.the_send, s_branch_tree_Readiness.the_field_sync, s_branch_tree_Readiness.the_sync, s_std_AtomicU64.the_send, s_std_AtomicU64.the_sync, s_std_Ordering.the_field_send, s_std_Ordering.the_send, s_std_Ordering.the_field_sync, s_std_Ordering.the_sync, s_std_Book.the_send, s_std_Share.the_send, s_std_PhantomData.the_field_send, s_std_PhantomData.the_send, s_std_PhantomData.the_field_sync, s_std_PhantomData.the_sync, s_std_Memory.the_field_send, s_std_Memory.the_send, s_std_Memory.the_field_sync, s_std_Memory.the_sync, s_std_Scope.the_sync, s_std_Mutex.the_send, s_std_Mutex.the_sync, s_slip_queue_Stage_crossbeam_queue.the_field_send, s_slip_queue_Stage_crossbeam_queue.the_send, s_slip_queue_Stage_crossbeam_queue.the_field_sync, s_slip_queue_Stage_crossbeam_queue.the_sync, s_slip_queue_Turns_crossbeam_queue.the_field_send, s_slip_queue_Turns_crossbeam_queue.the_send, s_slip_queue_Turns_crossbeam_queue.the_field_sync, s_slip_queue_Turns_crossbeam_queue.the_sync, s_json_tree_Short.the_send, s_json_tree_Short.the_sync, s_json_tree_Text.the_send, s_json_tree_Text.the_sync, s_json_tree_TextBytes.the_field_send, s_json_tree_TextBytes.the_send, s_json_tree_TextBytes.the_field_sync, s_json_tree_TextBytes.the_sync, s_json_tree_Told.the_field_send, s_json_tree_Told.the_send, s_json_tree_Told.the_field_sync, s_json_tree_Told.the_sync, s_ref_paths_PathStep.the_field_send, s_ref_paths_PathStep.the_send, s_ref_paths_PathStep.the_field_sync, s_ref_paths_PathStep.the_sync, s_ref_paths_RefPath.the_send, s_ref_paths_RefPath.the_sync, s_saved_steps_Kind.the_field_send, s_saved_steps_Kind.the_send, s_saved_steps_Kind.the_field_sync, s_saved_steps_Kind.the_sync, s_slip_queue_Balance.the_field_send, s_slip_queue_Balance.the_send, s_slip_queue_Balance.the_field_sync, s_slip_queue_Balance.the_sync, s_slip_queue_Hand.the_field_send, s_slip_queue_Hand.the_send, s_slip_queue_Hand.the_field_sync, s_slip_queue_Hand.the_sync, s_std_Box.the_sync, s_std_Vec.the_sync, s_std_Node_std_collections.the_sync, s_std_Nodes_std_collections.the_sync, s_std_Global.the_field_send, s_std_Global.the_send, s_std_Global.the_field_sync, s_std_Global.the_sync, s_step_names_ExecBytes.the_field_send, s_step_names_ExecBytes.the_send, s_step_names_ExecBytes.the_field_sync, s_step_names_ExecBytes.the_sync, s_step_names_ExecName.the_send, s_step_names_ExecName.the_sync, s_step_names_StepName.the_field_send, s_step_names_StepName.the_send, s_step_names_StepName.the_field_sync, s_step_names_StepName.the_sync, s_step_names_ThreadName.the_send, s_step_names_ThreadName.the_sync, s_slip_queue_Table_atomic_table.the_field_send, s_slip_queue_Table_atomic_table.the_send, s_slip_queue_Table_atomic_table.the_field_sync, s_slip_queue_Table_atomic_table.the_sync, s_slip_queue_SendLease_atomic_table.the_send, s_slip_queue_SendLease_atomic_table.the_sync, s_std_UnsafeCell.the_send, s_std_Option.the_field_send, s_std_Option.the_send, s_std_Option.the_field_sync, s_std_Option.the_sync, s_std_Result.the_field_send, s_std_Result.the_send, s_std_Result.the_field_sync, s_std_Result.the_sync, s_std_SpawnError.the_field_send, s_std_SpawnError.the_send, s_std_SpawnError.the_field_sync, s_std_SpawnError.the_sync, s_slip_queue_Doing_crossbeam_queue.the_field_send, s_slip_queue_Doing_crossbeam_queue.the_send, s_slip_queue_Doing_crossbeam_queue.the_field_sync, s_slip_queue_Doing_crossbeam_queue.the_sync, s_slip_queue_Slotted_crossbeam_queue.the_field_send, s_slip_queue_Slotted_crossbeam_queue.the_send, s_slip_queue_Slotted_crossbeam_queue.the_field_sync, s_slip_queue_Slotted_crossbeam_queue.the_sync, s_shared_book_Desk.the_send, s_shared_book_Shared.the_field_send, s_shared_book_Shared.the_send, s_shared_book_Shared.the_field_sync, s_shared_book_Shared.the_sync, s_slip_queue_Slip.the_field_send, s_slip_queue_Slip.the_send, s_slip_queue_Slip.the_field_sync, s_slip_queue_Slip.the_sync, s_slip_queue_Slips.the_field_send, s_slip_queue_Slips.the_send, s_slip_queue_Slips.the_field_sync, s_slip_queue_Slips.the_sync, s_slip_queue_Taker.the_field_send, s_slip_queue_Taker.the_send, s_std_Arc.the_send, s_std_Arc.the_sync, s_std_Box.the_send, s_std_String.the_field_send, s_std_String.the_send, s_std_String.the_field_sync, s_std_String.the_sync, s_std_Vec.the_send, s_std_Node_std_collections.the_send, s_std_Root_std_collections.the_field_send, s_std_Root_std_collections.the_send, s_std_Root_std_collections.the_field_sync, s_std_Root_std_collections.the_sync, s_std_Tree_std_collections.the_field_send, s_std_Tree_std_collections.the_send, s_std_Tree_std_collections.the_field_sync, s_std_Tree_std_collections.the_sync, s_std_BTreeMap.the_send, s_std_BTreeMap.the_sync, s_std_BTreeSet.the_send, s_std_BTreeSet.the_sync, s_std_LinkedList.the_send, s_std_LinkedList.the_sync, s_std_Nodes_std_collections.the_send, MapsCrossing.crosses, Crossing.crosses, sendable)

pub board_sync : IsSync board.the_row
board_sync = search within depth 60 fits 20000

pub seat_send : (L : RattleType) (ledger : _) → IsSend L → IsSend (seat.the_row L ledger)
seat_send L ledger it = search within depth 60 fits 20000

pub served_send : (L : RattleType) (ledger : _) → IsSend L → IsSend (served.the_row L ledger)
served_send L ledger it = search within depth 60 fits 20000

-- what a closure captured is sent as a tuple
pub six_send : (name : List ℕ) (A B C D E F : RattleType) → IsSend A → IsSend B → IsSend C → IsSend D → IsSend E → IsSend F → IsSend (TupleAt name (A ∷ B ∷ C ∷ D ∷ E ∷ F ∷ []))
six_send name A B C D E F a b c d e f =
    let fields = A ∷ B ∷ C ∷ D ∷ E ∷ F ∷ [] in
    recorded_send (field_at name fields).row _ _ (type_at name fields).to_one (struct_send (shape (type_at name fields)) (a, (b, (c, (d, (e, (f, tt)))))))

pub undoer_send : (L : RattleType) (ledger : _) → IsSend L → IsSend (undoer.the_row L ledger)
undoer_send L ledger it = search within depth 60 fits 20000

pub undone_send : (L : RattleType) (ledger : _) → IsSend L → IsSend (undone.the_row L ledger)
undone_send L ledger it = search within depth 60 fits 20000
