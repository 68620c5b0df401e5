use Rattle.std.proofs.Common.{◌≡◌, None, Some, sym, subst, ◌∙◌}
use Rattle.std.specs.Prelude.{option_map}
use Rattle.linked_classes.specs.Cells.{cell_at}
use Rattle.linked_classes.specs.Places.{place_in}
use Rattle.linked_classes.specs.Sets.{set_of}
use Rattle.saved_steps.specs.World.{is_same_step}
use Rattle.saved_steps.specs.declared.record.StepRecord.{StepRecord}
use Rattle.step_index.specs.Walks.{IsFirstFrom}
use Rattle.step_index.proofs.Passed.{IsPassed, ended, stopped, went_on}
use Rattle.step_index.proofs.walks.first_named.Goals as goal

pub loop-next-preserved : goal.loop-next-preserved
loop-next-preserved c =
    let v = c.args.records.now in
    let rs = v.items in
    let ns = v.numbers in
    let set = c.set_number-set.result in
    let g = cell_at (set_of v set) in
    let named = λ (r : StepRecord). is_same_step r.fact.name c.args.name.now in
    let here = c.of_number.ensures in
    let old = subst (λ o. IsPassed g c.args.class named rs 0 (option_map (place_in ns) o)) c.in-Some.is c.loop-next.invariant.passed in
    record {
      there = c.next-next.ensures.there;
      within = c.next-next.ensures.within;
      passed = went_on g c.args.class named rs 0 (place_in ns c.in-Some.number) old c.of_number.result.now here (sym c.is_of_name.ensures ∙ c.if-is_of_name.false) (option_map (place_in ns) c.next-next.result) (c.next-next.ensures.member c.args.class old.here.0);
    }

pub returns-then-is_of_name : goal.returns-then-is_of_name
returns-then-is_of_name c =
    let v = c.args.records.now in
    let rs = v.items in
    let ns = v.numbers in
    let g = cell_at (set_of v c.set_number-set.result) in
    let at = place_in ns c.in-Some.number in
    let named = λ (r : StepRecord). is_same_step r.fact.name c.args.name.now in
    let old = subst (λ o. IsPassed g c.args.class named rs 0 (option_map (place_in ns) o)) c.in-Some.is c.loop-next.invariant.passed in
    let found = stopped g c.args.class named rs 0 at old c.of_number.result.now c.of_number.ensures (sym c.is_of_name.ensures ∙ c.if-is_of_name.true) in
    let placed = subst (λ p. IsFirstFrom (λ k. g k ≡ Some c.args.class) named rs 0 (Some p)) (sym c.place.ensures.place) found in
    subst (λ s. IsFirstFrom (λ k. cell_at (set_of v s) k ≡ Some c.args.class) named rs 0 (Some c.place.result)) c.set_number-set.ensures.number placed

pub returns : goal.returns
returns c =
    let v = c.args.records.now in
    let rs = v.items in
    let ns = v.numbers in
    let g = cell_at (set_of v c.set_number-set.result) in
    let named = λ (r : StepRecord). is_same_step r.fact.name c.args.name.now in
    let none = ended g c.args.class named rs 0 (subst (λ o. IsPassed g c.args.class named rs 0 (option_map (place_in ns) o)) c.in_default.is c.loop-next.invariant.passed) in
    subst (λ s. IsFirstFrom (λ k. cell_at (set_of v s) k ≡ Some c.args.class) named rs 0 None) c.set_number-set.ensures.number none
