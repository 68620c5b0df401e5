use Rattle.std.proofs.Common.{◌≡◌, subst, Some}
use Rattle.attr_values.specs.declared.key.Key.{Key}
use Rattle.item_store.specs.Deciding.{decision}
use Rattle.item_store.specs.Store.{stored_items, slot_key}
use Rattle.item_store.specs.Table.{Table, at_key}
use Rattle.saved_steps.specs.Answering.{IsAnswerAt, IsAnswered}
use Rattle.saved_steps.proofs.Answered.{if_ok, touched, slotted}
use Rattle.saved_steps.proofs.answering.answer_key.Goals as goal

pub returns-clause-answer : goal.returns-clause-answer
returns-clause-answer c =
    let key = c.args.key in
    let old = stored_items c.args.items.now in
    let new = stored_items c.slot.new.self in
    let slot = c.in-Ok-slot.slot in
    let request = c.args.call.request in
    let kept : c.in-Ok.kept ≡ key = c.in-Ok.ensures in
    let found : slot_key c.slot.new.self slot ≡ Some key = c.in-Ok-slot.ensures.found in
    if_ok c.answer_at.result (λ a. IsAnswerAt (decision request (new c.in-Ok.kept)) c.in-Ok.kept slot a) (λ a. IsAnswered c.slot.new.self (at_key old key (decision request (old key))) a) c.answer_at.ensures
    (λ a h. touched c.slot.new.self old (decision request (old key)) key slot a found
    (subst (λ (t : Table). IsAnswerAt (decision request (t key)) key slot a) c.slot.ensures.items (subst (λ (k : Key). IsAnswerAt (decision request (new k)) k slot a) kept h)))

pub returns-clause-store : goal.returns-clause-store
returns-clause-store c = slotted c.args.items.now c.slot.new.self c.args.key c.in-Ok-slot.ensures.slots c.in-Ok-slot.ensures.kept
