use Rattle.item_store.proofs.Cuts.{cut_is}
use Rattle.item_store.proofs.condition.cut.Goals as goal

pub returns : goal.returns
returns c = cut_is c.args.separator c.args.text.now c.split_once.result (c.split_once.ensures.byte c.requires (λ w o h. h))
