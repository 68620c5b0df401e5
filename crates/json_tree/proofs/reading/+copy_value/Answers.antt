use Rattle.std.proofs.Common.{ap, ◌∙◌, sym, Some}
use Rattle.json_tree.specs.Data.{items_of, members_of}
use Rattle.json_tree.specs.Reading.{whole_items}
use Rattle.serde_json.specs.View.{items_view}
use Rattle.json_tree.proofs.Readings.{items_step, items_end, members_start, members_step, members_end}
use Rattle.json_tree.proofs.reading.+copy_value.Goals as goal

pub copy_items-loop-item-preserved : goal.copy_items-loop-item-preserved
copy_items-loop-item-preserved t c =
    let l = c.loop-item in
    items_step c.deref-item-items.result.now l.item-index c.item-item.result l.inner.items c.push.new.self.items c.in_ok-copy_value.field-0 _ c.item-item.is c.loop-item-test.true c.in_ok-copy_value.ensures.ok
    c.in_ok-push.ensures.items l.invariant

pub copy_items-returns-clause-ok : goal.copy_items-returns-clause-ok
copy_items-returns-clause-ok t c =
    let from = c.deref-item-items.result.now in
    ap (λ vs. whole_items (items_view vs)) (sym c.deref-item-items.ensures.value) ∙ items_end from c.loop-item.item-index c.loop-item.inner.items _ c.loop-item-test.false c.loop-item.invariant
    ∙ ap (λ ds. Some (items_of ds)) (sym c.in_ok-from_vec.ensures.ok)

pub copy_members-loop-key-init : goal.copy_members-loop-key-init
copy_members-loop-key-init t c =
    let from = c.into_iter-key-iterator.ensures.into_iter_gives ∙ c.iter-key-items.ensures.rest in
    members_start c.into_iter-key-iterator.result c.args.members.now.entries _ c.in_ok-inner.ensures.items from c.iter-key-items.ensures.ordered

pub copy_members-loop-key-preserved : goal.copy_members-loop-key-preserved
copy_members-loop-key-preserved t c =
    let l = c.loop-key in
    members_step l.key-iterator c.next.new.self c.in-Some.key.now c.in-Some.member.now l.inner.items c.push.new.self.items _ _ c.in-Some.ensures.steps (c.in_ok-name.ensures ∙ c.as_str.ensures.value) c.in_ok-value.ensures.ok c.in_ok-push.ensures.items l.invariant

pub copy_members-returns-clause-ok : goal.copy_members-returns-clause-ok
copy_members-returns-clause-ok t c =
    let l = c.loop-key in
    members_end l.key-iterator l.inner.items _ c.in-None.ensures.steps.0 l.invariant ∙ ap (λ ms. Some (members_of ms)) (sym c.in_ok-from_sorted.ensures.ok)
