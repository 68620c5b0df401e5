use Rattle.std.proofs.Common.{◌∙◌, ap, Some}
use Rattle.item_store.specs.Table.{Table, with_item}
use Rattle.book_log.proofs.opening.put.Goals as goal

pub returns-clause-item : goal.returns-clause-item
returns-clause-item c = (
  (c.in_ok-key.key, c.in_ok-key.item),
  rw c.schema.ensures at c.in_ok-key.ensures,
  c.swap.ensures.items c.in_ok-key.key c.in_ok-slot.ensures.found ∙ ap (λ (t : Table). with_item t c.in_ok-key.key (Some c.in_ok-key.item)) c.slot.ensures.items,
)
