use Rattle.item_store.proofs.Calls.{calls_change, calls_look}
use Rattle.item_store.proofs.laws.calls_touch_one_item.Goals as goal

pub returns-clause-changes : goal.returns-clause-changes
returns-clause-changes c = calls_change

pub returns-clause-looks : goal.returns-clause-looks
returns-clause-looks c = calls_look
