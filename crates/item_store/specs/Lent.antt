-- What is read of a call before it is copied.
use Rattle.std.specs.Prelude.{option_map}
use Rattle.json_tree.specs.View.{data_of}
use Rattle.item_store.specs.Calls.{Form}
use Rattle.item_store.specs.declared.call.Condition.{Condition}
use Rattle.item_store.specs.declared.call.Terms.{Terms}
use Rattle.item_store.specs.declared.condition.LentCondition.{LentCondition}
use Rattle.item_store.specs.declared.reading.LentForm.{LentForm}
use Rattle.item_store.specs.declared.reading.LentTerms.{LentTerms}

abbrev pub condition_seen : LentCondition → Condition
condition_seen c = record { kind = c.kind; attribute = c.attribute.now }

abbrev pub terms_seen : LentTerms → Terms
terms_seen t = record { condition = option_map condition_seen t.condition; returns = t.returns }

abbrev pub form_seen : LentForm → Form
form_seen f = record { table = f.table.now; item = data_of f.item.now; terms = terms_seen f.terms }
