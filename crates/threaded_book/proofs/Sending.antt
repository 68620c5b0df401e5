-- What a book may be sent with to another thread.
use denote.Param.Send.{IsSend, IsSync}
use Rattle.rollback_book.below.book_log.specs.contracts.begin.Begin as begin
use Rattle.rollback_book.below.branch_tree.proofs.branch.Branch.TheLaws.TheKnot as k_branch_tree_Branch
use Rattle.rollback_book.below.branch_tree.specs.contracts.branch.Branch as branch
use Rattle.rollback_book.below.branch_tree.specs.contracts.tree.Tree as tree
use Rattle.rollback_book.below.item_store.specs.contracts.store.ItemStore as item_store
use Rattle.rollback_book.below.linked_classes.proofs.classed.ClassedVec.TheSendSync as classed
use Rattle.rollback_book.below.step_history.proofs.settled_names.SettledNames.TheSendSync as settled_names
use Rattle.rollback_book.proofs.hold.Hold.TheSendSync as hold
use Rattle.rollback_book.specs.contracts.book.Book as book
use Rattle.rollback_book.below.saved_steps.specs.contracts.executions.Executions as executions
use Rattle.rollback_book.below.saved_steps.specs.contracts.places.Places as executions_places
use Rattle.rollback_book.below.saved_steps.specs.contracts.record.Saved as saved
use Rattle.rollback_book.below.saved_steps.specs.contracts.record.StepRecord as step_record
use Rattle.rollback_book.below.saved_steps.specs.contracts.world.World as world
use Rattle.rollback_book.specs.HistoryContract as history
use Rattle.rollback_book.specs.StepRecordsContract as step_records
use Rattle.step_workers.proofs.Sending.{base, entry_field_send, entry_field_sync, entry_send, entry_sync, frame_field_send, frame_field_sync, frame_send, frame_sync, item_field_send, item_field_sync, item_send, item_sync, json_list_field_send, json_list_field_sync, json_list_send, json_list_sync, shared_machine_field_send, shared_machine_field_sync, shared_machine_send, shared_machine_sync}

pub branch_field_send : IsSend (branch.the_field).row
branch_field_send = search (frame_send, frame_sync, frame_field_send, frame_field_sync, k_branch_tree_Branch.crosses, base) depth 60 fits 20000

pub branch_send : IsSend branch.the_row
branch_send = search (frame_send, frame_sync, frame_field_send, frame_field_sync, k_branch_tree_Branch.crosses, base) depth 60 fits 20000

pub branch_field_sync : IsSync (branch.the_field).row
branch_field_sync = search (frame_send, frame_sync, frame_field_send, frame_field_sync, k_branch_tree_Branch.crosses, base) depth 60 fits 20000

pub branch_sync : IsSync branch.the_row
branch_sync = search (frame_send, frame_sync, frame_field_send, frame_field_sync, k_branch_tree_Branch.crosses, base) depth 60 fits 20000

pub tree_field_send : IsSend (tree.the_field).row
tree_field_send = search (branch_send, branch_sync, branch_field_send, branch_field_sync, base) depth 60 fits 20000

pub tree_send : IsSend tree.the_row
tree_send = search (branch_send, branch_sync, branch_field_send, branch_field_sync, base) depth 60 fits 20000

pub tree_field_sync : IsSync (tree.the_field).row
tree_field_sync = search (branch_send, branch_sync, branch_field_send, branch_field_sync, base) depth 60 fits 20000

pub tree_sync : IsSync tree.the_row
tree_sync = search (branch_send, branch_sync, branch_field_send, branch_field_sync, base) depth 60 fits 20000

pub item_store_field_send : IsSend (item_store.the_field).row
item_store_field_send = search (item_send, item_sync, item_field_send, item_field_sync, base) depth 60 fits 20000

pub item_store_send : IsSend item_store.the_row
item_store_send = search (item_send, item_sync, item_field_send, item_field_sync, base) depth 60 fits 20000

pub item_store_field_sync : IsSync (item_store.the_field).row
item_store_field_sync = search (item_send, item_sync, item_field_send, item_field_sync, base) depth 60 fits 20000

pub item_store_sync : IsSync item_store.the_row
item_store_sync = search (item_send, item_sync, item_field_send, item_field_sync, base) depth 60 fits 20000

pub saved_field_send : IsSend (saved.the_field).row
saved_field_send = search (frame_send, frame_sync, item_send, item_sync, branch_send, branch_sync, frame_field_send, frame_field_sync, item_field_send, item_field_sync, branch_field_send, branch_field_sync, base) depth 60 fits 20000

pub saved_send : IsSend saved.the_row
saved_send = search (frame_send, frame_sync, item_send, item_sync, branch_send, branch_sync, frame_field_send, frame_field_sync, item_field_send, item_field_sync, branch_field_send, branch_field_sync, base) depth 60 fits 20000

pub saved_field_sync : IsSync (saved.the_field).row
saved_field_sync = search (frame_send, frame_sync, item_send, item_sync, branch_send, branch_sync, frame_field_send, frame_field_sync, item_field_send, item_field_sync, branch_field_send, branch_field_sync, base) depth 60 fits 20000

pub saved_sync : IsSync saved.the_row
saved_sync = search (frame_send, frame_sync, item_send, item_sync, branch_send, branch_sync, frame_field_send, frame_field_sync, item_field_send, item_field_sync, branch_field_send, branch_field_sync, base) depth 60 fits 20000

pub step_record_field_send : IsSend (step_record.the_field).row
step_record_field_send = search (saved_send, saved_sync, saved_field_send, saved_field_sync, base) depth 60 fits 20000

pub step_record_send : IsSend step_record.the_row
step_record_send = search (saved_send, saved_sync, saved_field_send, saved_field_sync, base) depth 60 fits 20000

pub step_record_field_sync : IsSync (step_record.the_field).row
step_record_field_sync = search (saved_send, saved_sync, saved_field_send, saved_field_sync, base) depth 60 fits 20000

pub step_record_sync : IsSync step_record.the_row
step_record_sync = search (saved_send, saved_sync, saved_field_send, saved_field_sync, base) depth 60 fits 20000

pub places_of_field_send : IsSend (executions_places.the_field).row
places_of_field_send = search (tree_send, tree_sync, tree_field_send, tree_field_sync, base) depth 60 fits 20000

pub places_of_send : IsSend executions_places.the_row
places_of_send = search (tree_send, tree_sync, tree_field_send, tree_field_sync, base) depth 60 fits 20000

pub places_of_field_sync : IsSync (executions_places.the_field).row
places_of_field_sync = search (tree_send, tree_sync, tree_field_send, tree_field_sync, base) depth 60 fits 20000

pub places_of_sync : IsSync executions_places.the_row
places_of_sync = search (tree_send, tree_sync, tree_field_send, tree_field_sync, base) depth 60 fits 20000

pub executions_field_send : IsSend (executions.the_field).row
executions_field_send = search (places_of_send, places_of_sync, places_of_field_send, places_of_field_sync, tree_send, tree_sync, tree_field_send, tree_field_sync, base) depth 60 fits 20000

pub executions_send : IsSend executions.the_row
executions_send = search (places_of_send, places_of_sync, places_of_field_send, places_of_field_sync, tree_send, tree_sync, tree_field_send, tree_field_sync, base) depth 60 fits 20000

pub executions_field_sync : IsSync (executions.the_field).row
executions_field_sync = search (places_of_send, places_of_sync, places_of_field_send, places_of_field_sync, tree_send, tree_sync, tree_field_send, tree_field_sync, base) depth 60 fits 20000

pub executions_sync : IsSync executions.the_row
executions_sync = search (places_of_send, places_of_sync, places_of_field_send, places_of_field_sync, tree_send, tree_sync, tree_field_send, tree_field_sync, base) depth 60 fits 20000

pub world_field_send : IsSend (world.the_field).row
world_field_send = search (executions_send, executions_sync, executions_field_send, executions_field_sync, tree_send, tree_sync, item_send, item_sync, item_store_send, item_store_sync, tree_field_send, tree_field_sync, item_field_send, item_field_sync, item_store_field_send, item_store_field_sync, base) depth 60 fits 20000

pub world_send : IsSend world.the_row
world_send = search (executions_send, executions_sync, executions_field_send, executions_field_sync, tree_send, tree_sync, item_send, item_sync, item_store_send, item_store_sync, tree_field_send, tree_field_sync, item_field_send, item_field_sync, item_store_field_send, item_store_field_sync, base) depth 60 fits 20000

pub world_field_sync : IsSync (world.the_field).row
world_field_sync = search (executions_send, executions_sync, executions_field_send, executions_field_sync, tree_send, tree_sync, item_send, item_sync, item_store_send, item_store_sync, tree_field_send, tree_field_sync, item_field_send, item_field_sync, item_store_field_send, item_store_field_sync, base) depth 60 fits 20000

pub world_sync : IsSync world.the_row
world_sync = search (executions_send, executions_sync, executions_field_send, executions_field_sync, tree_send, tree_sync, item_send, item_sync, item_store_send, item_store_sync, tree_field_send, tree_field_sync, item_field_send, item_field_sync, item_store_field_send, item_store_field_sync, base) depth 60 fits 20000

pub step_records_field_send : IsSend (step_records.the_field).row
step_records_field_send = search (step_record_send, step_record_sync, step_record_field_send, step_record_field_sync, classed.the_send, classed.the_sync, base) depth 60 fits 20000

pub step_records_send : IsSend step_records.the_row
step_records_send = search (step_record_send, step_record_sync, step_record_field_send, step_record_field_sync, classed.the_send, classed.the_sync, base) depth 60 fits 20000

pub step_records_field_sync : IsSync (step_records.the_field).row
step_records_field_sync = search (step_record_send, step_record_sync, step_record_field_send, step_record_field_sync, classed.the_send, classed.the_sync, base) depth 60 fits 20000

pub step_records_sync : IsSync step_records.the_row
step_records_sync = search (step_record_send, step_record_sync, step_record_field_send, step_record_field_sync, classed.the_send, classed.the_sync, base) depth 60 fits 20000

pub history_field_send : IsSend (history.the_field).row
history_field_send = search (step_records_send, step_records_sync, step_records_field_send, step_records_field_sync, world_send, world_sync, step_record_send, step_record_sync, world_field_send, world_field_sync, step_record_field_send, step_record_field_sync, base) depth 60 fits 20000

pub history_send : IsSend history.the_row
history_send = search (step_records_send, step_records_sync, step_records_field_send, step_records_field_sync, world_send, world_sync, step_record_send, step_record_sync, world_field_send, world_field_sync, step_record_field_send, step_record_field_sync, base) depth 60 fits 20000

pub history_field_sync : IsSync (history.the_field).row
history_field_sync = search (step_records_send, step_records_sync, step_records_field_send, step_records_field_sync, world_send, world_sync, step_record_send, step_record_sync, world_field_send, world_field_sync, step_record_field_send, step_record_field_sync, base) depth 60 fits 20000

pub history_sync : IsSync history.the_row
history_sync = search (step_records_send, step_records_sync, step_records_field_send, step_records_field_sync, world_send, world_sync, step_record_send, step_record_sync, world_field_send, world_field_sync, step_record_field_send, step_record_field_sync, base) depth 60 fits 20000

pub begin_field_send : IsSend (begin.the_field).row
begin_field_send = search (json_list_send, json_list_sync, json_list_field_send, json_list_field_sync, base) depth 60 fits 20000

pub begin_send : IsSend begin.the_row
begin_send = search (json_list_send, json_list_sync, json_list_field_send, json_list_field_sync, base) depth 60 fits 20000

pub begin_field_sync : IsSync (begin.the_field).row
begin_field_sync = search (json_list_send, json_list_sync, json_list_field_send, json_list_field_sync, base) depth 60 fits 20000

pub begin_sync : IsSync begin.the_row
begin_sync = search (json_list_send, json_list_sync, json_list_field_send, json_list_field_sync, base) depth 60 fits 20000

pub book_field_send : IsSend (book.the_field).row
book_field_send = search (settled_names.the_send, settled_names.the_sync, hold.the_send, hold.the_sync, hold.the_field_send, hold.the_field_sync, begin_send, begin_sync, history_send, history_sync, entry_send, entry_sync, shared_machine_send, shared_machine_sync, begin_field_send, begin_field_sync, history_field_send, history_field_sync, entry_field_send, entry_field_sync, shared_machine_field_send, shared_machine_field_sync, base) depth 60 fits 20000

pub book_send : IsSend book.the_row
book_send = search (settled_names.the_send, settled_names.the_sync, hold.the_send, hold.the_sync, hold.the_field_send, hold.the_field_sync, begin_send, begin_sync, history_send, history_sync, entry_send, entry_sync, shared_machine_send, shared_machine_sync, begin_field_send, begin_field_sync, history_field_send, history_field_sync, entry_field_send, entry_field_sync, shared_machine_field_send, shared_machine_field_sync, base) depth 60 fits 20000

pub book_field_sync : IsSync (book.the_field).row
book_field_sync = search (settled_names.the_send, settled_names.the_sync, hold.the_send, hold.the_sync, hold.the_field_send, hold.the_field_sync, begin_send, begin_sync, history_send, history_sync, entry_send, entry_sync, shared_machine_send, shared_machine_sync, begin_field_send, begin_field_sync, history_field_send, history_field_sync, entry_field_send, entry_field_sync, shared_machine_field_send, shared_machine_field_sync, base) depth 60 fits 20000

pub book_sync : IsSync book.the_row
book_sync = search (settled_names.the_send, settled_names.the_sync, hold.the_send, hold.the_sync, hold.the_field_send, hold.the_field_sync, begin_send, begin_sync, history_send, history_sync, entry_send, entry_sync, shared_machine_send, shared_machine_sync, begin_field_send, begin_field_sync, history_field_send, history_field_sync, entry_field_send, entry_field_sync, shared_machine_field_send, shared_machine_field_sync, base) depth 60 fits 20000
