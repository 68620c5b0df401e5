use denote.Param.Send.{sendable}
use Rattle.threaded_book.proofs.Sending.{book_send}
use Rattle.shared_tests.proofs.rounds.run.Goals as goal

pub work_beside-both-requires-send-B : goal.work_beside-both-requires-send-B
work_beside-both-requires-send-B g c = λ κs inside. search (book_send, sendable)
