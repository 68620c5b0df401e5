use Rattle.std.proofs.Common.{arith}
use Rattle.linked_classes.proofs.Members.{wider}
use Rattle.linked_classes.proofs.classes.LinkedClasses.reserve.Goals as goal

pub invariant_of-self-in_err-widen-2 : goal.invariant_of-self-in_err-widen-2
invariant_of-self-in_err-widen-2 c = record {
  linked = wider _ _ _ _ _ _ _ _ _ c.widen-2.ensures.ends c.widen.ensures.ends c.widen-2.ensures.least c.self.invariant.linked;
  ends = let most = c.widen-2.ensures.most in let ok = c.in_ok-widen.ensures.ok in let least = c.widen.ensures.least in let ends = c.self.invariant.ends in grind (arith, most, ok, least, ends);
}

pub invariant_of-self-2 : goal.invariant_of-self-2
invariant_of-self-2 c = record {
  linked = rw (c.reserve.ensures.cells) (wider _ _ _ _ _ _ _ _ _ c.widen-2.ensures.ends c.widen.ensures.ends c.widen-2.ensures.least c.self.invariant.linked);
  ends = let most = c.widen-2.ensures.most in let ok = c.in_ok-widen.ensures.ok in let least = c.widen.ensures.least in let ends = c.self.invariant.ends in grind (arith, most, ok, least, ends);
}
