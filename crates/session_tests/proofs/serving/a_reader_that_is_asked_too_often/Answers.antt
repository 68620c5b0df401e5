use denote.Param.Send.{sendable}
use Rattle.threaded_book.proofs.Sending.{book_send}
use Rattle.session_tests.proofs.serving.a_reader_that_is_asked_too_often.Goals as goal

pub ended_within-requires-send-B : goal.ended_within-requires-send-B
ended_within-requires-send-B c = λ κs inside. search (book_send, sendable)

pub ended_within-requires-2-send-B : goal.ended_within-requires-2-send-B
ended_within-requires-2-send-B c = λ κs inside. search (book_send, sendable)

pub ended_within-requires-3-send-B : goal.ended_within-requires-3-send-B
ended_within-requires-3-send-B c = λ κs inside. search (book_send, sendable)
