use Rattle.std.proofs.Common.{◌≡◌, ◌<◌, ◌+◌, ◌-◌, ◌/◌, suc, arith, length, refl, ap, sym, ◌∙◌}
use Rattle.std.specs.Prelude.{slice_get}
use Rattle.std.proofs.lemmas.Option.{same_Some, slice_get_read, slice_get_within}
use Rattle.linked_classes.specs.declared.numbers.Block.{Block}
use Rattle.linked_classes.proofs.Blocks.{first_start, located, some_block}
use Rattle.linked_classes.proofs.numbers.block_of.Goals as goal

pub loop-high-init : goal.loop-high-init
loop-high-init c =
    let bs = c.args.blocks.now in
    record {
      below = some_block bs c.args.at c.requires.within;
      most = omega arith;
      from = λ b is. let e = first_start 0 bs c.requires.starts b is in omega (arith, e);
      before = λ b is. let l = slice_get_within bs (length bs) b is in absurd (omega (arith, l));
    }

pub loop-high-preserved-then-blocks-middle : goal.loop-high-preserved-then-blocks-middle
loop-high-preserved-then-blocks-middle c =
    let bs = c.args.blocks.now in
    let l = c.loop-high in
    let test = c.loop-high-test.true in
    let middle = l.low + (l.high - l.low) / 2 in
    let within : middle < length bs = omega (arith, test, l.invariant.below, l.invariant.most) in
    let here = slice_get_read bs (length bs) middle c.index-blocks-middle.result refl within c.index-blocks-middle.is in
    record {
      below = omega (arith, test, l.invariant.below);
      most = l.invariant.most;
      from = λ b is. let e = ap (λ (d : Block). d.start) (same_Some c.index-blocks-middle.result b (sym here ∙ is)) in let t = c.if-blocks-middle.true in let v = ap (λ (d : Block). d.start) c.index-blocks-middle.is in omega (arith, e, t, v);
      before = l.invariant.before;
    }

pub loop-high-preserved : goal.loop-high-preserved
loop-high-preserved c =
    let bs = c.args.blocks.now in
    let l = c.loop-high in
    let test = c.loop-high-test.true in
    let middle = l.low + (l.high - l.low) / 2 in
    let within : middle < length bs = omega (arith, test, l.invariant.below, l.invariant.most) in
    let here = slice_get_read bs (length bs) middle c.index-blocks-middle.result refl within c.index-blocks-middle.is in
    record {
      below = omega (arith, test, l.invariant.below);
      most = omega (arith, within);
      from = l.invariant.from;
      before = λ b is. let e = ap (λ (d : Block). d.start) (same_Some c.index-blocks-middle.result b (sym here ∙ is)) in let t = c.if-blocks-middle.false in let v = ap (λ (d : Block). d.start) c.index-blocks-middle.is in omega (arith, e, t, v);
    }

pub returns-clause-here : goal.returns-clause-here
returns-clause-here c b is =
    let bs = c.args.blocks.now in
    let l = c.loop-high in
    let next : suc l.low ≡ l.high = omega (arith, c.loop-high-test.false, l.invariant.below) in
    let within = c.requires.within in
    (l.invariant.from b is, located 0 bs c.requires.starts l.low c.args.at b is (omega (arith, within)) (λ d at. l.invariant.before d (ap (slice_get bs) (sym next) ∙ at)))
