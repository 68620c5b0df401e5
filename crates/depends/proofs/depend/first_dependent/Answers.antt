use Rattle.std.proofs.Common.{sym, ◌∙◌, get_or}
use Rattle.depends.proofs.Searching.{search_finds, search_passes}
use Rattle.depends.proofs.depend.first_dependent.Goals as goal

pub returns-then-depends : goal.returns-then-depends
returns-then-depends c =
    let step = get_or c.args.records.now c.args.at c.index-records-at.result in
    sym (search_finds c.args.records.now c.loop-place.place c.index-records-place.result c.loop-place-test.true step.fact (sym c.depends.ensures ∙ c.if-depends.true)) ∙ c.loop-place.invariant

pub loop-place-preserved : goal.loop-place-preserved
loop-place-preserved c =
    let step = get_or c.args.records.now c.args.at c.index-records-at.result in
    sym (search_passes c.args.records.now c.loop-place.place c.index-records-place.result c.loop-place-test.true step.fact (sym c.depends.ensures ∙ c.if-depends.false)) ∙ c.loop-place.invariant
