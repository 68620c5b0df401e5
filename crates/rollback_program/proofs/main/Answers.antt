use denote.Param.Send.{sendable}
use Rattle.threaded_book.proofs.Sending.{book_send}
use Rattle.rollback_program.proofs.main.Goals as goal

pub run_asked-status-requires-send-B : goal.run_asked-status-requires-send-B
run_asked-status-requires-send-B c = λ κs inside. search (book_send, sendable)
