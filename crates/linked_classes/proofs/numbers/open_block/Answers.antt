use Rattle.std.proofs.Common.{◌+◌, ◌++◌, ◌∷◌, [], arith, length, ap, sym, subst, ◌∙◌}
use Rattle.linked_classes.specs.Numbers.{AreBlocks, joined}
use Rattle.linked_classes.specs.declared.numbers.Block.{Block}
use Rattle.linked_classes.proofs.Blocks.{joined_with, new_block}
use Rattle.linked_classes.proofs.numbers.open_block.Goals as goal

pub returns-clause-blocks : goal.returns-clause-blocks
returns-clause-blocks c =
    let bs = c.args.blocks.now.items in
    let block : Block = record { start = c.end_of-start.result; numbers = c.push_reserved.new.self } in
    let items = c.push_reserved.ensures.items ∙ ap (λ l. l ++ c.args.number ∷ []) c.requires.fresh.0 in
    let capacity = c.push_reserved.ensures.capacity in
    let room = c.requires.fresh.1 in
    let start = c.end_of-start.ensures ∙ ap (λ l. length (joined l)) c.as_slice.ensures.value in
    subst (λ l. AreBlocks l (c.args.number + 1)) (sym c.push_reserved-2.ensures.items)
    (new_block bs c.args.number c.requires.blocks c.requires.small block c.requires.none start items (omega (arith, capacity, room)))

pub returns-clause-joined : goal.returns-clause-joined
returns-clause-joined c =
    let bs = c.args.blocks.now.items in
    let block : Block = record { start = c.end_of-start.result; numbers = c.push_reserved.new.self } in
    let items = c.push_reserved.ensures.items ∙ ap (λ l. l ++ c.args.number ∷ []) c.requires.fresh.0 in
    ap joined c.push_reserved-2.ensures.items ∙ joined_with bs block ∙ ap (λ l. joined bs ++ l) items
