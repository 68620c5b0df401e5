use Rattle.std.proofs.Common.{◌<◌, ◌-◌, arith, length, refl}
use Rattle.std.proofs.lemmas.Option.{slice_get_read}
use Rattle.linked_classes.proofs.Blocks.{ending}
use Rattle.linked_classes.proofs.numbers.end_of.Goals as goal

pub returns : goal.returns
returns c =
    let bs = c.args.blocks.now in
    let some = c.if-count-eq0.false in
    let w : length bs - 1 < length bs = omega (arith, some) in
    let is = slice_get_read bs (length bs) (length bs - 1) c.index-blocks-count.result refl w c.index-blocks-count.is in
    let e = ending 0 bs c.requires.1.starts (length bs - 1) c.index-blocks-count.result is (omega (arith, w)) in
    let len = c.len.ensures in
    omega (arith, e, len)
