use denote.Param.Send.{sendable}
use Rattle.threaded_book.proofs.Sending.{book_send}
use Rattle.session_tests.proofs.serving.a_lost_round_fails_the_session.Goals as goal

pub losses-lost-requires-send-B : goal.losses-lost-requires-send-B
losses-lost-requires-send-B c = λ κs inside. search (book_send, sendable)
