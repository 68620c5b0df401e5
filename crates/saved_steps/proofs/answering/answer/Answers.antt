use Rattle.std.proofs.Common.{◌≡◌, sym, subst, Ok, Result}
use Rattle.std.specs.Prelude.{IfOk}
use Rattle.attr_values.specs.declared.key.Key.{Key}
use Rattle.item_store.specs.Store.{stored_items}
use Rattle.item_store.specs.Table.{key_asked, on_key}
use Rattle.item_store.specs.declared.fault.CallFault.{CallFault}
use Rattle.saved_steps.specs.Answering.{IsAnswered}
use Rattle.saved_steps.proofs.answering.answer.Goals as goal

pub returns-in-Ok-clause-answer : goal.returns-in-Ok-clause-answer
returns-in-Ok-clause-answer c =
    let s = c.args.items.now in
    let call = c.args.call in
    let asked : key_asked s.table s.schema call ≡ Ok c.in-Ok.key = c.in-Ok.ensures.key in
    subst (λ (r : Result Key CallFault). IfOk c.answer_key.result (λ a. IsAnswered c.answer_key.new.items (on_key (stored_items s) call.request r) a)) (sym asked) c.answer_key.ensures.answer
