use denote.Param.Send.{sendable}
use Rattle.threaded_book.proofs.Sending.{book_send}
use Rattle.session_tests.proofs.serving.a_flush_that_fails.Goals as goal

pub ended_new-ended-requires-send-B : goal.ended_new-ended-requires-send-B
ended_new-ended-requires-send-B c = λ κs inside. search (book_send, sendable)
