use denote.Param.Send.{sendable}
use Rattle.value_rows.proofs.Sending.{call_send}
use Rattle.value_rows.proofs.items.call_in.Goals as goal

pub sent-requires-send-T : goal.sent-requires-send-T
sent-requires-send-T c = λ κs. search (call_send, sendable)
