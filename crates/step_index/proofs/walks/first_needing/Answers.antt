use Rattle.std.proofs.Common.{◌≡◌, ◌+◌, None, Some, ap, sym, subst, ◌∙◌}
use Rattle.std.specs.Prelude.{option_map, slice_get}
use Rattle.std.proofs.lemmas.Option.{none-some, same_Some}
use Rattle.linked_classes.specs.Cells.{cell_at}
use Rattle.linked_classes.specs.Linked.{IsNext}
use Rattle.linked_classes.specs.Places.{place_in}
use Rattle.linked_classes.specs.Sets.{set_of}
use Rattle.saved_steps.specs.declared.record.StepRecord.{StepRecord}
use Rattle.depends.specs.Dependence.{depends_directly}
use Rattle.step_index.specs.Walks.{IsFirstFrom, record_needs}
use Rattle.step_index.proofs.Passed.{IsPassed, begun_after, ended, stopped, went_on}
use Rattle.step_index.proofs.walks.first_needing.Goals as goal

pub loop-next-init : goal.loop-next-init
loop-next-init c =
    let v = c.args.records.now in
    let ns = v.numbers in
    let g = cell_at (set_of v c.set_number-set.result) in
    let e = c.number-own.ensures.place in
    record {
      there = c.next-next.ensures.there;
      within = c.next-next.ensures.within;
      member = λ class f is h.
          begun_after g class (record_needs f) v.items c.args.at (option_map (place_in ns) c.next-next.result)
          (subst (λ k. IsNext g class k (option_map (place_in ns) c.next-next.result)) e (c.next-next.ensures.member class (ap g e ∙ is)));
      none = λ is. c.next-next.ensures.none (ap g e ∙ is);
    }

pub returns-then-depends-clause-member : goal.returns-then-depends-clause-member
returns-then-depends-clause-member c class f is h =
    let v = c.args.records.now in
    let rs = v.items in
    let ns = v.numbers in
    let set = c.set_number-set.result in
    let g = cell_at (set_of v set) in
    let own = c.of_number.result.now in
    let x = c.of_number-in-Some.result.now in
    let low = c.args.at + 1 in
    let same = same_Some own f (sym c.of_number.ensures ∙ ap (slice_get rs) c.number-own.ensures.place ∙ h) in
    let has : g c.args.at ≡ Some class = ap (λ s. cell_at (set_of v s) c.args.at) c.set_number-set.ensures.number ∙ is in
    let old = subst (λ o. IsPassed g class (record_needs f) rs low (option_map (place_in ns) o)) c.in-Some.is (c.loop-next.invariant.member class f has h) in
    let found = stopped g class (record_needs f) rs low (place_in ns c.in-Some.number) old x c.of_number-in-Some.ensures (ap (λ (y : StepRecord). depends_directly y.fact x.fact) (sym same) ∙ sym c.depends.ensures ∙ c.if-depends.true) in
    let placed = subst (λ p. IsFirstFrom (λ k. g k ≡ Some class) (record_needs f) rs low (Some p)) (sym c.place.ensures.place) found in
    subst (λ s. IsFirstFrom (λ k. cell_at (set_of v s) k ≡ Some class) (record_needs f) rs low (Some c.place.result)) c.set_number-set.ensures.number placed

pub returns-then-depends-clause-none : goal.returns-then-depends-clause-none
returns-then-depends-clause-none c is =
    let v = c.args.records.now in
    let has : cell_at (set_of v c.set_number-set.result) c.args.at ≡ None = ap (λ s. cell_at (set_of v s) c.args.at) c.set_number-set.ensures.number ∙ is in
    absurd (none-some c.in-Some.number (sym (c.loop-next.invariant.none has) ∙ c.in-Some.is))

pub loop-next-preserved : goal.loop-next-preserved
loop-next-preserved c =
    let v = c.args.records.now in
    let rs = v.items in
    let ns = v.numbers in
    let g = cell_at (set_of v c.set_number-set.result) in
    let own = c.of_number.result.now in
    let x = c.of_number-in-Some.result.now in
    record {
      there = c.next-next-in-Some.ensures.there;
      within = c.next-next-in-Some.ensures.within;
      member = λ class f is h.
          let old = subst (λ o. IsPassed g class (record_needs f) rs (c.args.at + 1) (option_map (place_in ns) o)) c.in-Some.is (c.loop-next.invariant.member class f is h) in
          let same = same_Some own f (sym c.of_number.ensures ∙ ap (slice_get rs) c.number-own.ensures.place ∙ h) in
          went_on g class (record_needs f) rs (c.args.at + 1) (place_in ns c.in-Some.number) old x c.of_number-in-Some.ensures (ap (λ (y : StepRecord). depends_directly y.fact x.fact) (sym same) ∙ sym c.depends.ensures ∙ c.if-depends.false)
          (option_map (place_in ns) c.next-next-in-Some.result) (c.next-next-in-Some.ensures.member class old.here.0);
      none = λ is. absurd (none-some c.in-Some.number (sym (c.loop-next.invariant.none is) ∙ c.in-Some.is));
    }

pub returns-clause-member : goal.returns-clause-member
returns-clause-member c class f is h =
    let v = c.args.records.now in
    let rs = v.items in
    let ns = v.numbers in
    let g = cell_at (set_of v c.set_number-set.result) in
    let low = c.args.at + 1 in
    let has : g c.args.at ≡ Some class = ap (λ s. cell_at (set_of v s) c.args.at) c.set_number-set.ensures.number ∙ is in
    let none = ended g class (record_needs f) rs low (subst (λ o. IsPassed g class (record_needs f) rs low (option_map (place_in ns) o)) c.in_default.is (c.loop-next.invariant.member class f has h)) in
    subst (λ s. IsFirstFrom (λ k. cell_at (set_of v s) k ≡ Some class) (record_needs f) rs low None) c.set_number-set.ensures.number none
