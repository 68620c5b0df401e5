-- What a request does with the item of its key (GetItem, PutItem and DeleteItem of the DynamoDB API).
use Rattle.std.specs.Prelude.{ℕ, List, Bool, true, false, Option, Some, None, if◌then◌else◌, codes}
use Rattle.json_tree.specs.Data as json
use Rattle.json_tree.specs.View.{data_of}
use Rattle.attr_values.specs.Datum.{Datum}
use Rattle.attr_values.specs.Writing.{one_field, item_json}
use Rattle.item_store.specs.Condition.{holds}
use Rattle.item_store.specs.Faults.{check_failed}
use Rattle.item_store.specs.declared.access.AccessMode.{AccessMode}
use Rattle.item_store.specs.declared.access.AccessMode.TheVariants.{Read, Write}
use Rattle.item_store.specs.declared.call.Request.{Request}
use Rattle.item_store.specs.declared.call.Request.TheVariants.{Get, Put, Delete}
use Rattle.item_store.specs.declared.call.ReturnValues.{ReturnValues}
use Rattle.item_store.specs.declared.call.ReturnValues.TheVariants.{Nothing, AllOld}
use Rattle.item_store.specs.declared.call.Terms.{Terms}
use Rattle.item_store.specs.declared.deciding.Answer.{Answer}
use Rattle.item_store.specs.declared.deciding.Answer.TheVariants.{Given, Refused}
use Rattle.item_store.specs.declared.deciding.Decided.{Decided}

-- an item as contracts see it
abbrev pub ItemAttributes : Type 0
ItemAttributes = List (List ℕ × Datum)

-- what a caller is told: a value, or an error's name
pub data Reply : Type 0 where
  given : json.Data → Reply
  refused : List ℕ → Reply

-- whether an answer takes memory: each does but the empty object
abbrev pub reply_takes_memory : Reply → Bool
reply_takes_memory (given (json.fields json.no_members)) = false
reply_takes_memory _ = true

-- what a request does: the answer, how it touches its item, and, where that is a write, the item afterwards
pub record Decision : Type 0 where
  pub answer : Reply
  pub access : AccessMode
  pub new : Option ItemAttributes

abbrev pub reply_of : Answer → Reply
reply_of (Given j) = given (data_of j)
reply_of (Refused name) = refused name

abbrev pub decision_of : Decided → Decision
decision_of d = record { answer = reply_of d.answer; access = d.access; new = d.new }

-- an object with an item in its one field, or with no field where there is none
abbrev pub object_with : List ℕ → Option ItemAttributes → json.Data
object_with name None = json.fields json.no_members
object_with name (Some item) = one_field name (item_json item)

abbrev pub returned : ReturnValues → Option ItemAttributes → Option ItemAttributes
returned Nothing old = None
returned AllOld old = old

abbrev pub read_only : Reply → Decision
read_only reply = record { answer = reply; access = Read; new = None }

-- a put or a delete: where its condition holds of the old item, the new one stands in its place
abbrev pub write : Terms → Option ItemAttributes → Option ItemAttributes → Decision
write terms new old =
    if holds terms.condition old
    then record { answer = given (object_with (codes "Attributes") (returned terms.returns old)); access = Write; new = new }
    else read_only (refused check_failed)

abbrev pub decision : Request → Option ItemAttributes → Decision
decision (Get key) old = read_only (given (object_with (codes "Item") old))
decision (Put item terms) old = write terms (Some item) old
decision (Delete key terms) old = write terms None old
