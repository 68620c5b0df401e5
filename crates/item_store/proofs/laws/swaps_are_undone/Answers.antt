use Rattle.item_store.proofs.Calls.{swaps_undone}
use Rattle.item_store.proofs.laws.swaps_are_undone.Goals as goal

pub returns : goal.returns
returns c = swaps_undone
