-- A delete in which only the condition may be wrong says whether that is one.
use Rattle.std.proofs.Common.{◌≡◌, Option, Some, None, refl, option_and_then}
use Rattle.json_tree.specs.Data.{Data, fields, no_members}
use Rattle.item_store.specs.Calls.{Form, call_of, call_from, condition_in, form_from, terms_from}
use Rattle.item_store.specs.declared.call.Action.TheVariants.{DeleteItem}
use Rattle.item_store.specs.declared.call.Condition.{Condition}
use Rattle.item_store.specs.declared.call.ReturnValues.TheVariants.{Nothing}
use Rattle.std.specs.Prelude.{[]}
use Rattle.explain.specs.Details.{conditioned}

made_of : (o : Option (Option Condition))
    → option_and_then (call_from DeleteItem) (form_from (Some []) (Some (fields no_members)) (terms_from o (Some Nothing))) ≡ None → o ≡ None
made_of None h = refl
made_of (Some c) h = cc

pub no_condition : (d : Data) → call_of DeleteItem (conditioned d) ≡ None → condition_in (Some d) ≡ None
no_condition d h = made_of (condition_in (Some d)) h
