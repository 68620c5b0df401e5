use Rattle.std.proofs.Common.{◌≡◌, ◌==◌, ◌<◌, ℕ, true, Some, arith, length, subst, sym}
use Rattle.std.specs.BinaryHeap.{heap_items}
use Rattle.std.specs.Prelude.{◌||◌, option_map}
use Rattle.std.proofs.lemmas.List.{length-map}
use Rattle.linked_classes.specs.Cells.{cell_at}
use Rattle.linked_classes.specs.Places.{place_in}
use Rattle.linked_classes.specs.Sets.{set_class, set_of}
use Rattle.step_index.specs.Due.{IsBehind, IsGrown}
use Rattle.step_index.specs.Queue.{has_place}
use Rattle.step_index.proofs.Opening.{IsPut, mapped, places_within, put_all, put_beyond, put_more, put_none}
use Rattle.step_index.proofs.due.put_behind.Goals as goal

pub loop-last-init : goal.loop-last-init
loop-last-init c =
    let v = c.args.records.now in
    let cs = set_of v c.set_number-set.result in
    let last = option_map (place_in v.numbers) c.last-last.result in
    record {
      there = c.last-last.ensures.there;
      put = put_none cs c.args.class c.args.at (has_place (heap_items c.args.due.now.heap)) last c.last-last.ensures.last (places_within v.numbers (length cs) (sym (length-map v.numbers (set_class (cell_at v.slots) c.set_number-set.result))) c.last-last.result c.last-last.ensures.there);
    }

pub returns-then-place-at-clause-all : goal.returns-then-place-at-clause-all
returns-then-place-at-clause-all c =
    let v = c.args.records.now in
    let cs = set_of v c.set_number-set.result in
    let old = has_place (heap_items c.args.due.now.heap) in
    let now = has_place (heap_items c.loop-last.due.heap) in
    let n = place_in v.numbers c.in-Some.number in
    let e = c.place-place.ensures.place in
    let low = c.if-place-at.true in
    let put = subst (λ o. IsPut cs c.args.class c.args.at (option_map (place_in v.numbers) o) old now) c.in-Some.is c.loop-last.invariant.put in
    subst (λ s. (k : ℕ) → c.args.at < k → cell_at (set_of v s) k ≡ Some c.args.class → now k ≡ true) c.set_number-set.ensures.number
    (put_beyond cs c.args.class c.args.at old n now (omega (arith, e, low)) put)

pub returns-then-place-at-clause-grown : goal.returns-then-place-at-clause-grown
returns-then-place-at-clause-grown c =
    let v = c.args.records.now in
    subst (λ s. IsGrown (IsBehind (set_of v s) c.args.class c.args.at) (has_place (heap_items c.args.due.now.heap)) (has_place (heap_items c.loop-last.due.heap))) c.set_number-set.ensures.number c.loop-last.invariant.put.grown

pub loop-last-preserved : goal.loop-last-preserved
loop-last-preserved c =
    let v = c.args.records.now in
    let cs = set_of v c.set_number-set.result in
    let due = has_place (heap_items c.args.due.now.heap) in
    let now = has_place (heap_items c.loop-last.due.heap) in
    let more = has_place (heap_items c.push.new.self.heap) in
    let n = place_in v.numbers c.in-Some.number in
    let e = c.place-place.ensures.place in
    let far = c.if-place-at.false in
    let old = subst (λ o. IsPut cs c.args.class c.args.at (option_map (place_in v.numbers) o) due now) c.in-Some.is c.loop-last.invariant.put in
    let put = subst (λ p. (k : ℕ) → more k ≡ (p == k || now k)) e c.in_ok-push.ensures in
    record {
      there = c.before-last.ensures.there;
      put = put_more cs c.args.class c.args.at due n now more (option_map (place_in v.numbers) c.before-last.result) (omega (arith, e, far)) old put (c.before-last.ensures.member c.args.class old.here)
          (mapped (place_in v.numbers) (λ k. k < n) c.before-last.result c.before-last.ensures.earlier);
    }

pub returns-clause-all : goal.returns-clause-all
returns-clause-all c =
    let v = c.args.records.now in
    let cs = set_of v c.set_number-set.result in
    let old = has_place (heap_items c.args.due.now.heap) in
    let now = has_place (heap_items c.loop-last.due.heap) in
    subst (λ s. (k : ℕ) → c.args.at < k → cell_at (set_of v s) k ≡ Some c.args.class → now k ≡ true) c.set_number-set.ensures.number
    (put_all cs c.args.class c.args.at old now (subst (λ o. IsPut cs c.args.class c.args.at (option_map (place_in v.numbers) o) old now) c.in_default.is c.loop-last.invariant.put))

pub returns-clause-grown : goal.returns-clause-grown
returns-clause-grown c =
    let v = c.args.records.now in
    subst (λ s. IsGrown (IsBehind (set_of v s) c.args.class c.args.at) (has_place (heap_items c.args.due.now.heap)) (has_place (heap_items c.loop-last.due.heap))) c.set_number-set.ensures.number c.loop-last.invariant.put.grown
