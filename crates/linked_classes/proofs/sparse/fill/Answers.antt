use Rattle.std.proofs.Common.{◌∷◌, [], arith, length, ap, ◌∙◌, length-append}
use Rattle.linked_classes.specs.Cells.{key_at}
use Rattle.linked_classes.proofs.Keys.{more_holes}
use Rattle.linked_classes.proofs.sparse.fill.Goals as goal

pub loop-keys-preserved : goal.loop-keys-preserved
loop-keys-preserved c =
    let keys = c.loop-keys.keys.items in
    let long = length-append keys (4294967295 ∷ []) in
    let grown = ap length c.push_reserved.ensures.items in
    record {
      same = ap key_at c.push_reserved.ensures.items ∙ more_holes keys ∙ c.loop-keys.invariant.same;
      longer = omega (arith, long, grown, c.loop-keys.invariant.longer);
      most = let test = c.loop-keys-test.true in let len = c.len.ensures in let ok = c.loop-keys.keys.ok.0 in grind (arith, long, grown, test, len, ok);
      capacity = c.push_reserved.ensures.capacity ∙ c.loop-keys.invariant.capacity;
    }
