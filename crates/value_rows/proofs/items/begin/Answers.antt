use denote.Param.Send.{sendable}
use Rattle.value_rows.proofs.Sending.{item_store_send}
use Rattle.value_rows.proofs.items.begin.Goals as goal

pub sent-requires-send-T : goal.sent-requires-send-T
sent-requires-send-T c = λ κs. search (item_store_send, sendable)
