use Rattle.item_store.proofs.Conditions.{conditions_spelled}
use Rattle.item_store.proofs.laws.conditions_are_spelled.Goals as goal

pub returns : goal.returns
returns c = conditions_spelled
