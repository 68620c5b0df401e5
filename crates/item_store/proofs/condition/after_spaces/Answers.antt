use Rattle.std.proofs.Common.{refl, arith}
use Rattle.std.proofs.lemmas.Str.{IsCharBoundary-after_ascii}
use Rattle.item_store.proofs.condition.after_spaces.Goals as goal

pub range_from-rest-requires : goal.range_from-rest-requires
range_from-rest-requires c =
    let yes = c.loop-rest-test.ensures.yes refl in
    λ _. IsCharBoundary-after_ascii c.loop-rest.rest.now 0 c.loop-rest.invariant.0 yes.0 (omega (arith, yes.1))
