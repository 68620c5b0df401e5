use Rattle.std.proofs.Common.{◌≡◌, ◌<◌, Some, length, sym, subst}
use Rattle.std.specs.Prelude.{slice_get}
use Rattle.linked_classes.proofs.Blocks.{behind, gone}
use Rattle.linked_classes.proofs.numbers.RisingNumbers.remove.Goals as goal

pub lower-requires : goal.lower-requires
lower-requires c =
    let bs = c.self.inside.blocks.items in
    let k = c.block_of-here.result in
    let list = c.as_slice.ensures.value in
    behind bs c.take_from-number.new.blocks.items c.self.inside.end k c.args.at c.take_from-number.result c.self.invariant.0 (subst (λ l. k < length l) list c.block_of-here.ensures.there)
    (λ b is. c.block_of-here.ensures.here b (subst (λ l. slice_get l k ≡ Some b) (sym list) is)) c.take_from-number.ensures

pub invariant_of-self : goal.invariant_of-self
invariant_of-self c =
    let bs = c.self.inside.blocks.items in
    let k = c.block_of-here.result in
    let list = c.as_slice.ensures.value in
    let g = gone bs c.take_from-number.new.blocks.items c.self.inside.end k c.args.at c.take_from-number.result c.self.invariant.0 (subst (λ l. k < length l) list c.block_of-here.ensures.there)
    (λ b is. c.block_of-here.ensures.here b (subst (λ l. slice_get l k ≡ Some b) (sym list) is)) c.take_from-number.ensures c.lower.new.blocks.items c.lower.ensures in
    (g.blocks, c.self.invariant.1)

pub returns-clause-number : goal.returns-clause-number
returns-clause-number c =
    let bs = c.self.inside.blocks.items in
    let k = c.block_of-here.result in
    let list = c.as_slice.ensures.value in
    let g = gone bs c.take_from-number.new.blocks.items c.self.inside.end k c.args.at c.take_from-number.result c.self.invariant.0 (subst (λ l. k < length l) list c.block_of-here.ensures.there)
    (λ b is. c.block_of-here.ensures.here b (subst (λ l. slice_get l k ≡ Some b) (sym list) is)) c.take_from-number.ensures c.lower.new.blocks.items c.lower.ensures in
    rw (← c.self.view_is) g.gives

pub returns-clause-items : goal.returns-clause-items
returns-clause-items c =
    let bs = c.self.inside.blocks.items in
    let k = c.block_of-here.result in
    let list = c.as_slice.ensures.value in
    let g = gone bs c.take_from-number.new.blocks.items c.self.inside.end k c.args.at c.take_from-number.result c.self.invariant.0 (subst (λ l. k < length l) list c.block_of-here.ensures.there)
    (λ b is. c.block_of-here.ensures.here b (subst (λ l. slice_get l k ≡ Some b) (sym list) is)) c.take_from-number.ensures c.lower.new.blocks.items c.lower.ensures in
    rw (← c.self.view_is) g.items
