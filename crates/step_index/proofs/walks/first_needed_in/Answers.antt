use Rattle.std.proofs.Common.{◌≡◌, ◌<◌, Some, length, ap, sym, subst, ◌∙◌}
use Rattle.std.specs.Prelude.{IfSome, option_map, slice_get}
use Rattle.linked_classes.specs.Cells.{cell_at}
use Rattle.linked_classes.specs.Places.{place_in}
use Rattle.linked_classes.specs.Sets.{set_of}
use Rattle.step_index.specs.Walks.{IsFirstFrom, needed_by}
use Rattle.step_index.proofs.Passed.{IsPassed, ended, stopped, went_on}
use Rattle.step_index.proofs.walks.first_needed_in.Goals as goal

pub returns-then-depends-clause-first : goal.returns-then-depends-clause-first
returns-then-depends-clause-first c =
    let rs = c.args.records.now.items in
    let v = c.args.steps.now in
    let g = cell_at (set_of v c.args.set) in
    let need = needed_by c.args.later.now in
    let place = place_in v.numbers in
    let at = ap (slice_get rs) (sym c.place-place.ensures.place) ∙ c.get.ensures in
    let old = subst (λ o. IsPassed g c.args.class need rs 0 (option_map place o)) c.in-Some.is c.loop-next.invariant.passed in
    subst (λ p. IsFirstFrom (λ k. g k ≡ Some c.args.class) need rs 0 (Some p)) (sym c.place-place.ensures.place)
    (stopped g c.args.class need rs 0 (place c.in-Some.number) old c.get.result.now at (sym c.depends.ensures ∙ c.if-depends.true))

pub returns-then-depends-clause-member : goal.returns-then-depends-clause-member
returns-then-depends-clause-member c =
    let rs = c.args.records.now.items in
    let v = c.args.steps.now in
    let g = cell_at (set_of v c.args.set) in
    let old = subst (λ o. IsPassed g c.args.class (needed_by c.args.later.now) rs 0 (option_map (place_in v.numbers) o)) c.in-Some.is c.loop-next.invariant.passed in
    ap g c.place-place.ensures.place ∙ old.here.0

pub loop-next-preserved : goal.loop-next-preserved
loop-next-preserved c =
    let rs = c.args.records.now.items in
    let v = c.args.steps.now in
    let g = cell_at (set_of v c.args.set) in
    let need = needed_by c.args.later.now in
    let place = place_in v.numbers in
    let at = ap (slice_get rs) (sym c.place-place.ensures.place) ∙ c.get.ensures in
    let old = subst (λ o. IsPassed g c.args.class need rs 0 (option_map place o)) c.in-Some.is c.loop-next.invariant.passed in
    record {
      there = c.next-next.ensures.there;
      within = c.next-next.ensures.within;
      passed = went_on g c.args.class need rs 0 (place c.in-Some.number) old c.get.result.now at (sym c.depends.ensures ∙ c.if-depends.false) (option_map place c.next-next.result) (c.next-next.ensures.member c.args.class old.here.0);
    }

pub returns-clause-first : goal.returns-clause-first
returns-clause-first c =
    let rs = c.args.records.now.items in
    let v = c.args.steps.now in
    let g = cell_at (set_of v c.args.set) in
    let need = needed_by c.args.later.now in
    ended g c.args.class need rs 0 (subst (λ o. IsPassed g c.args.class need rs 0 (option_map (place_in v.numbers) o)) c.in_default.is c.loop-next.invariant.passed)
