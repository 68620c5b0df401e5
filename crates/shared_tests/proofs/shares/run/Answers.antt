use denote.Param.Send.{sendable}
use Rattle.threaded_book.proofs.Sending.{book_send}
use Rattle.shared_tests.proofs.shares.run.Goals as goal

pub work-requires-send-B : goal.work-requires-send-B
work-requires-send-B g c = λ κs inside. search (book_send, sendable)
