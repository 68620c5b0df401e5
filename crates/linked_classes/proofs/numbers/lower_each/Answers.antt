use Rattle.std.proofs.Common.{◌≡◌, ◌≢◌, ◌-◌, ◌+◌, Some, suc, arith, length, refl, ap, sym, ◌∙◌}
use Rattle.std.proofs.lemmas.Option.{get_or_from_slice_get, slice_get_read}
use Rattle.std.specs.Prelude.{slice_get, slice_set}
use Rattle.linked_classes.specs.Numbers.{lowered_blocks}
use Rattle.linked_classes.proofs.Blocks.{lower_one, lowered_past}
use Rattle.linked_classes.proofs.Gets.{set_elsewhere}
use Rattle.linked_classes.proofs.numbers.lower_each.Goals as goal

pub loop-at-preserved : goal.loop-at-preserved
loop-at-preserved c =
    let l = c.loop-at in
    let bs = l.blocks in
    let b = c.index-blocks-at.result in
    let is : slice_get bs l.at ≡ Some b = slice_get_read bs (length bs) l.at b refl c.loop-at-test.true c.index-blocks-at.is in
    rw (get_or_from_slice_get bs l.at b b is, get_or_from_slice_get bs l.at b c.index-blocks-at-in-loop-at.result is) record {
      same = let step : l.at + 1 ≡ suc l.at = omega arith in ap (λ n. lowered_blocks n (slice_set bs l.at (record b { start = b.start - 1 }))) step ∙ lower_one bs l.at b is ∙ l.invariant.same;
      ones = λ k d low at.
          let other : k ≢ l.at = λ e. omega (arith, e, low) in
          l.invariant.ones k d (omega (arith, low)) (sym (set_elsewhere bs l.at (record b { start = b.start - 1 }) k other) ∙ at);
    }

pub returns : goal.returns
returns c =
    let l = c.loop-at in
    let bs = l.blocks in
    let test = c.loop-at-test.false in
    sym (lowered_past bs l.at (omega (arith, test))) ∙ l.invariant.same
