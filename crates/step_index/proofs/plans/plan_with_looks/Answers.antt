use Rattle.std.proofs.Common.{ℕ, ◌+◌, List, arith, ap, reverse, ◌∙◌}
use Rattle.step_index.proofs.Finding.{near_in_all, up_to_first, up_to_last, up_to_next}
use Rattle.step_index.proofs.Listed.{there}
use Rattle.step_index.proofs.plans.plan_with_looks.Goals as goal

pub loop-place-init : goal.loop-place-init
loop-place-init c =
    (c.args.at + 1, up_to_first c.args.records.now c.args.at _ c.args.looks.now.count _ c.requires.there c.in_ok-found.ensures.places c.in_ok-found.ensures.found c.begin.ensures.looks)

pub add_if_follows-requires-clause-there : goal.add_if_follows-requires-clause-there
add_if_follows-requires-clause-there c = (c.in-Some.ensures.next c.args.records.now c.loop-place.invariant.0 c.loop-place.invariant.1.found).within

pub add_if_follows-requires-clause-room : goal.add_if_follows-requires-clause-room
add_if_follows-requires-clause-room c =
    let i = c.loop-place.invariant in
    let n = c.in-Some.ensures.next c.args.records.now i.0 i.1.found in
    let room = c.requires.room in
    let few = i.1.few in
    let low = n.low in
    let within = n.within in
    omega (arith, room, few, low, within)

pub add_if_follows-requires-clause-found : goal.add_if_follows-requires-clause-found
add_if_follows-requires-clause-found c = (c.in-Some.ensures.next c.args.records.now c.loop-place.invariant.0 c.loop-place.invariant.1.found).found

pub loop-place-smaller : goal.loop-place-smaller
loop-place-smaller c =
    let i = c.loop-place.invariant in
    let n = c.in-Some.ensures.next c.args.records.now i.0 i.1.found in
    let few = i.1.few in
    let low = n.low in
    let within = n.within in
    let counted = c.add_if_follows.ensures.looks in
    omega (arith, few, low, within, counted)

pub loop-place-preserved : goal.loop-place-preserved
loop-place-preserved c =
    let rs = c.args.records.now in
    let i = c.loop-place.invariant in
    let n = c.in-Some.ensures.next rs i.0 i.1.found in
    let g = there rs c.in-Some.place n.within in (
      c.in-Some.place + 1,
      up_to_next rs c.args.at i.0 c.loop-place.found c.next_due.new.self c.args.looks.now.count c.loop-place.looks.count i.1 c.next_due.ensures.places c.in-Some.place c.add_if_follows.new.found g.0 c.add_if_follows.new.looks.count n g.1
          (c.in_ok-add_if_follows.ensures.places g.0 g.1) c.in_ok-add_if_follows.ensures.found c.add_if_follows.ensures.looks,
    )

pub returns-in_err-add_if_follows-clause-looks : goal.returns-in_err-add_if_follows-clause-looks
returns-in_err-add_if_follows-clause-looks c =
    let i = c.loop-place.invariant in
    let n = c.in-Some.ensures.next c.args.records.now i.0 i.1.found in
    let few = i.1.few in
    let low = n.low in
    let within = n.within in
    let counted = c.add_if_follows.ensures.looks in
    omega (arith, few, low, within, counted)

pub returns-clause-plan : goal.returns-clause-plan
returns-clause-plan c =
    let rs = c.args.records.now in
    let i = c.loop-place.invariant in
    let last = c.in_default.ensures.next rs i.0 i.1.found in
    c.new.ensures
    ∙ c.reverse.ensures.items
    ∙ ap (λ (l : List ℕ). reverse l) (c.into_places-places.ensures ∙ up_to_last rs c.args.at i.0 c.loop-place.found c.next_due.new.self c.args.looks.now.count c.loop-place.looks.count i.1 c.next_due.ensures.places last)

pub returns-clause-near : goal.returns-clause-near
returns-clause-near c =
    let i = c.loop-place.invariant in
    near_in_all c.args.records.now c.args.at i.0 c.loop-place.found c.next_due.new.self c.args.looks.now.count c.loop-place.looks.count i.1 c.next_due.ensures.places c.new.result
    (c.new.ensures ∙ c.reverse.ensures.items ∙ ap (λ (l : List ℕ). reverse l) c.into_places-places.ensures)
