use denote.Param.Send.{sendable}
use Rattle.threaded_book.proofs.Sending.{book_send}
use Rattle.graph_follower.proofs.giving.give_line.Goals as goal

pub serve-outcome-requires-send-B : goal.serve-outcome-requires-send-B
serve-outcome-requires-send-B g c = λ κs inside. search (book_send, sendable)
