use Rattle.std.proofs.Common.{sym, ◌∙◌}
use Rattle.depends.proofs.Searching.{place_decides, place_passes}
use Rattle.depends.proofs.planning.depends_on_some.Goals as goal

pub returns-then-depends : goal.returns-then-depends
returns-then-depends c =
    let k = c.loop-place.place-index in
    sym (place_decides c.args.records.now c.args.places.now k c.index-records-place.result c.args.later.now c.loop-place-test.true (c.requires k 0 c.loop-place-test.true) (sym c.depends.ensures ∙ c.if-depends.true)) ∙ c.loop-place.invariant

pub loop-place-preserved : goal.loop-place-preserved
loop-place-preserved c =
    let k = c.loop-place.place-index in
    sym (place_passes c.args.records.now c.args.places.now k c.index-records-place.result c.args.later.now c.loop-place-test.true (c.requires k 0 c.loop-place-test.true) (sym c.depends.ensures ∙ c.if-depends.false)) ∙ c.loop-place.invariant
