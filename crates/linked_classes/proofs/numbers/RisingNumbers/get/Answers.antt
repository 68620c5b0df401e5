use Rattle.std.proofs.Common.{◌≡◌, ◌<◌, ◌+◌, ◌-◌, arith, Some, length, refl, ap, sym, subst, ◌∙◌}
use Rattle.std.specs.Prelude.{slice_get}
use Rattle.std.proofs.lemmas.Option.{slice_get_read}
use Rattle.linked_classes.specs.Numbers.{joined}
use Rattle.linked_classes.proofs.Blocks.{number_in}
use Rattle.linked_classes.proofs.numbers.RisingNumbers.get.Goals as goal

pub returns : goal.returns
returns c =
    let bs = c.self.inside.blocks.items in
    let h = c.self.invariant.0 in
    let k = c.block_of.result in
    let b = c.index-block.result.now in
    let there : k < length bs = subst (λ l. k < length l) c.as_slice.ensures.value c.block_of.ensures.there in
    let is = slice_get_read bs (length bs) k b refl there c.index-block.ensures in
    let range = c.block_of.ensures.here b (subst (λ l. slice_get l k ≡ Some b) (sym c.as_slice.ensures.value) is) in
    let low = range.0 in
    let high = range.1 in
    let w : c.args.at - b.start < length b.numbers.items = omega (arith, low, high) in
    let same : c.args.at ≡ b.start + (c.args.at - b.start) = omega (arith, low) in
    rw (← c.self.view_is)
    (ap (slice_get (joined bs)) same ∙ number_in bs h.starts k b is (c.args.at - b.start) w ∙ slice_get_read b.numbers.items (length b.numbers.items) (c.args.at - b.start) c.index.result.now refl w c.index.ensures)
