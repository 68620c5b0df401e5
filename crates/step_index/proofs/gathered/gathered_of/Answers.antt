use Rattle.std.proofs.Common.{◌≡◌, ℕ, true, Some, ◌++◌, ◌∷◌, [], ap, sym, subst, ◌∙◌}
use Rattle.std.specs.Prelude.{option_map, slice_get}
use Rattle.linked_classes.specs.Cells.{cell_at}
use Rattle.linked_classes.specs.Places.{place_in}
use Rattle.linked_classes.specs.Sets.{set_of}
use Rattle.saved_steps.specs.declared.record.StepRecord.{StepRecord}
use Rattle.step_index.specs.Gathered.{is_of_execution}
use Rattle.step_index.proofs.Collecting.{IsGathered, begun, passed, taken}
use Rattle.step_index.proofs.gathered.gathered_of.Goals as goal
use Rattle.step_index.proofs.gathered.gathered_of.Goals.{then-is_of+in_ok-push, else-is_of}

pub loop-next-init : goal.loop-next-init
loop-next-init c =
    let v = c.args.records.now in
    let g = cell_at (set_of v c.set_number-set.result) in
    let first = option_map (place_in v.numbers) c.first-next.result in
    record {
      there = c.first-next.ensures.there;
      within = c.first-next.ensures.within;
      gathered = subst (λ found. IsGathered g c.args.class (is_of_execution c.args.exec.now) v.items first found) (sym c.new-found.ensures.items)
          (begun g c.args.class (is_of_execution c.args.exec.now) v.items first c.first-next.ensures.first);
    }

pub loop-next-preserved : goal.loop-next-preserved
loop-next-preserved c =
    let v = c.args.records.now in
    let rs = v.items in
    let ns = v.numbers in
    let g = cell_at (set_of v c.set_number-set.result) in
    let p = is_of_execution c.args.exec.now in
    let at = place_in ns c.in-Some.number in
    let more = option_map (place_in ns) c.next-next.result in
    let old = subst (λ o. IsGathered g c.args.class p rs (option_map (place_in ns) o) c.loop-next.found.items) c.in-Some.is c.loop-next.invariant.gathered in
    let next = c.next-next.ensures.member c.args.class old.here in
    record {
      there = c.next-next.ensures.there;
      within = c.next-next.ensures.within;
      gathered = elim c.if-is_of.branch [
        | then-is_of+in_ok-push w ↦
            subst (λ found. IsGathered g c.args.class p rs more found) (ap (λ k. c.loop-next.found.items ++ k ∷ []) (sym w.place.ensures.place) ∙ sym w.in_ok-push.ensures.items ∙ ap (λ v. v.items) (sym w.found-is))
            (taken g c.args.class p rs at c.loop-next.found.items old c.of_number.result.now c.of_number.ensures (sym c.is_of.ensures ∙ w.if-is_of.true) more next)
        | else-is_of w ↦
            subst (λ found. IsGathered g c.args.class p rs more found) (ap (λ v. v.items) (sym w.found-is))
            (passed g c.args.class p rs at c.loop-next.found.items old c.of_number.result.now c.of_number.ensures (sym c.is_of.ensures ∙ w.if-is_of.false) more next)
      ];
    }

pub returns : goal.returns
returns c =
    let v = c.args.records.now in
    let rs = v.items in
    let g = cell_at (set_of v c.set_number-set.result) in
    let p = is_of_execution c.args.exec.now in
    let all = subst (λ o. IsGathered g c.args.class p rs (option_map (place_in v.numbers) o) c.loop-next.found.items) c.in_default.is c.loop-next.invariant.gathered in
    λ h. all.gathered (subst (λ s. (k : ℕ) (r : StepRecord) → slice_get rs k ≡ Some r → p r ≡ true → cell_at (set_of v s) k ≡ Some c.args.class) (sym c.set_number-set.ensures.number) h)
