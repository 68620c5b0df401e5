use denote.Param.Send.{sendable}
use Rattle.threaded_book.proofs.Sending.{book_send}
use Rattle.shared_tests.proofs.passes.one_of_each.Goals as goal

pub undo_beside-undone-requires-send-B : goal.undo_beside-undone-requires-send-B
undo_beside-undone-requires-send-B g c = λ κs inside. search (book_send, sendable)
