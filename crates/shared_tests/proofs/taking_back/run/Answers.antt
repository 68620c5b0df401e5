use denote.Param.Send.{sendable}
use Rattle.threaded_book.proofs.Sending.{book_send}
use Rattle.shared_tests.proofs.taking_back.run.Goals as goal

pub take_back-requires-send-B : goal.take_back-requires-send-B
take_back-requires-send-B g c = λ κs inside. search (book_send, sendable)
