use Rattle.std.proofs.Common.{◌≡◌, ◌/◌, ℕ, arith, Some, length, refl, ap, sym, subst, ◌∙◌}
use Rattle.std.specs.Prelude.{slice_get}
use Rattle.std.proofs.lemmas.Option.{same_Some, slice_get_read, slice_get_within}
use Rattle.linked_classes.specs.Numbers.{joined}
use Rattle.linked_classes.specs.Places.{IsRising}
use Rattle.linked_classes.specs.declared.numbers.Block.{Block}
use Rattle.linked_classes.proofs.Blocks.{number_in, own_block, rising_in}
use Rattle.linked_classes.proofs.numbers.RisingNumbers.place.Goals as goal

pub index-block-requires : goal.index-block-requires
index-block-requires c =
    let bs = c.self.inside.blocks.items in
    let there : (i : ℕ) × (slice_get (joined bs) i ≡ Some c.args.number) = rw (← c.self.view_is) at c.requires in
    let own = own_block bs c.self.inside.end c.self.invariant.0 there.0 c.args.number there.1 in
    let l = slice_get_within bs (c.args.number / 512) own.0 own.1 in
    let ok = c.self.inside.blocks.ok.0 in
    omega (arith, l, ok)

pub place_of-requires-clause-rising : goal.place_of-requires-clause-rising
place_of-requires-clause-rising c =
    let bs = c.self.inside.blocks.items in
    let b = c.index-block.result.now in
    let h = c.self.invariant.0 in
    let there : (i : ℕ) × (slice_get (joined bs) i ≡ Some c.args.number) = rw (← c.self.view_is) at c.requires in
    let own = own_block bs c.self.inside.end h there.0 c.args.number there.1 in
    let is = slice_get_read bs (length bs) (c.args.number / 512) b refl (slice_get_within bs (c.args.number / 512) own.0 own.1) c.index-block.ensures in
    subst IsRising (sym c.as_slice.ensures.value) (rising_in bs h.starts (c.args.number / 512) b is h.rising)

pub place_of-requires-clause-there : goal.place_of-requires-clause-there
place_of-requires-clause-there c =
    let bs = c.self.inside.blocks.items in
    let b = c.index-block.result.now in
    let h = c.self.invariant.0 in
    let there : (i : ℕ) × (slice_get (joined bs) i ≡ Some c.args.number) = rw (← c.self.view_is) at c.requires in
    let own = own_block bs c.self.inside.end h there.0 c.args.number there.1 in
    let is = slice_get_read bs (length bs) (c.args.number / 512) b refl (slice_get_within bs (c.args.number / 512) own.0 own.1) c.index-block.ensures in
    let same = same_Some own.0 b (sym own.1 ∙ is) in
    (own.2.0, ap (λ l. slice_get l own.2.0) (c.as_slice.ensures.value ∙ ap (λ (d : Block). d.numbers.items) (sym same)) ∙ own.2.1)

pub overflow_add-result : goal.overflow_add-result
overflow_add-result c =
    let bs = c.self.inside.blocks.items in
    let b = c.index-block.result.now in
    let h = c.self.invariant.0 in
    let there : (i : ℕ) × (slice_get (joined bs) i ≡ Some c.args.number) = rw (← c.self.view_is) at c.requires in
    let own = own_block bs c.self.inside.end h there.0 c.args.number there.1 in
    let is = slice_get_read bs (length bs) (c.args.number / 512) b refl (slice_get_within bs (c.args.number / 512) own.0 own.1) c.index-block.ensures in
    let o = h.blocks (c.args.number / 512) b is in
    let few = o.few in
    let low = o.low in
    let reached = o.reached in
    let small = h.small in
    let w = slice_get_within b.numbers.items c.place_of.result c.args.number (subst (λ l. slice_get l c.place_of.result ≡ Some c.args.number) c.as_slice.ensures.value c.place_of.ensures) in
    omega (arith, few, low, reached, small, w)

pub returns : goal.returns
returns c =
    let bs = c.self.inside.blocks.items in
    let b = c.index-block.result.now in
    let h = c.self.invariant.0 in
    let there : (i : ℕ) × (slice_get (joined bs) i ≡ Some c.args.number) = rw (← c.self.view_is) at c.requires in
    let own = own_block bs c.self.inside.end h there.0 c.args.number there.1 in
    let is = slice_get_read bs (length bs) (c.args.number / 512) b refl (slice_get_within bs (c.args.number / 512) own.0 own.1) c.index-block.ensures in
    let at = subst (λ l. slice_get l c.place_of.result ≡ Some c.args.number) c.as_slice.ensures.value c.place_of.ensures in
    rw (← c.self.view_is) (number_in bs h.starts (c.args.number / 512) b is c.place_of.result (slice_get_within b.numbers.items c.place_of.result c.args.number at) ∙ at)
