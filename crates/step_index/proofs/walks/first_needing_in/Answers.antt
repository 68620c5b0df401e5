use Rattle.std.proofs.Common.{◌≡◌, ◌<◌, ◌+◌, arith, Some, length, ap, sym, subst, ◌∙◌}
use Rattle.std.specs.Prelude.{IfSome, option_map, slice_get}
use Rattle.std.proofs.lemmas.Option.{IfSome_then}
use Rattle.linked_classes.specs.Cells.{cell_at}
use Rattle.linked_classes.specs.Places.{IsNumber, place_in}
use Rattle.linked_classes.specs.Sets.{set_of}
use Rattle.step_index.specs.Walks.{IsFirstFrom, record_needs}
use Rattle.step_index.proofs.Listed.{there}
use Rattle.step_index.proofs.Sought.{IsSought, broke_off, came_back, holds_chosen, is_less, map_chosen, not_less, sought_on}
use Rattle.step_index.proofs.walks.first_needing_in.Goals as goal

pub returns-then-not-is_behind : goal.returns-then-not-is_behind
returns-then-not-is_behind c f h =
    let v = c.args.records.now in
    let rs = v.items in
    let place = place_in v.numbers in
    let g = cell_at (set_of v c.set_number-set.result) in
    let low = c.args.at + 1 in
    let n = place c.in-Some.number in
    let own = c.number-own.ensures.place in
    let far = not_less (place c.number-own.result) n (sym c.is_behind.ensures ∙ c.if-not-is_behind.true) in
    let old = subst (λ o. IsSought g c.args.class (record_needs f) rs low (option_map place c.loop-last.found) (option_map place o)) c.in-Some.is (c.loop-last.invariant.sought f h) in
    let first = broke_off g c.args.class (record_needs f) rs low n (option_map place c.loop-last.found) old (omega (arith, far, own)) in
    subst (λ r. IsFirstFrom (λ k. cell_at (set_of v r) k ≡ Some c.args.class) (record_needs f) rs low c.place_of.result) c.set_number-set.ensures.number
    (subst (λ r. IsFirstFrom (λ k. g k ≡ Some c.args.class) (record_needs f) rs low r) (sym c.place_of.ensures) first)

pub loop-last-preserved : goal.loop-last-preserved
loop-last-preserved c =
    let v = c.args.records.now in
    let rs = v.items in
    let place = place_in v.numbers in
    let g = cell_at (set_of v c.set_number-set.result) in
    let low = c.args.at + 1 in
    let n = place c.in-Some.number in
    let own = c.number-own.ensures.place in
    let within = subst (λ o. IfSome o (λ k. place k < length rs)) c.in-Some.is c.loop-last.invariant.within in
    let number = subst (λ o. IfSome o (IsNumber v.numbers)) c.in-Some.is c.loop-last.invariant.there in
    let x = there rs n within in
    let y = there rs c.args.at c.requires.there in
    let own_is = ap (slice_get rs) own ∙ y.1 in
    let beyond = is_less (place c.number-own.result) n (sym c.is_behind.ensures ∙ c.if-not-is_behind.false) in
    record {
      there = c.before-last.ensures.there;
      found = subst (λ o. IfSome o (IsNumber v.numbers)) (sym (c.nearer-found.ensures y.0 x.0 own_is x.1)) (holds_chosen (IsNumber v.numbers) (record_needs y.0 x.0) c.in-Some.number c.loop-last.found number c.loop-last.invariant.found);
      within = IfSome_then c.before-last.result c.before-last.ensures.earlier (λ k l. omega (arith, l, within));
      sought = λ f h.
          let old = subst (λ o. IsSought g c.args.class (record_needs f) rs low (option_map place c.loop-last.found) (option_map place o)) c.in-Some.is (c.loop-last.invariant.sought f h) in
          sought_on g c.args.class (record_needs f) rs low n (option_map place c.loop-last.found) old x.0 x.1 (omega (arith, beyond, own)) (option_map place c.nearer-found.result) (option_map place c.before-last.result)
          (ap (option_map place) (c.nearer-found.ensures f x.0 (ap (slice_get rs) own ∙ h) x.1) ∙ map_chosen place (record_needs f x.0) c.in-Some.number c.loop-last.found)
          (c.before-last.ensures.member c.args.class old.here);
    }

pub returns : goal.returns
returns c f h =
    let v = c.args.records.now in
    let rs = v.items in
    let place = place_in v.numbers in
    let g = cell_at (set_of v c.set_number-set.result) in
    let low = c.args.at + 1 in
    let first = came_back g c.args.class (record_needs f) rs low (option_map place c.loop-last.found) (subst (λ o. IsSought g c.args.class (record_needs f) rs low (option_map place c.loop-last.found) (option_map place o)) c.in_default.is (c.loop-last.invariant.sought f h)) in
    subst (λ s. IsFirstFrom (λ k. cell_at (set_of v s) k ≡ Some c.args.class) (record_needs f) rs low c.place_of-2.result) c.set_number-set.ensures.number
    (subst (λ r. IsFirstFrom (λ k. g k ≡ Some c.args.class) (record_needs f) rs low r) (sym c.place_of-2.ensures) first)
