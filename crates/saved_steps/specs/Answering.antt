-- What is made ready of a call: its answer, and what is to be put into the slot of its key.
use Rattle.std.specs.Prelude.{◌≡◌, true, Option, Some, None}
use Rattle.attr_values.specs.declared.key.Key.{Key}
use Rattle.item_store.specs.Deciding.{Decision, reply_of}
use Rattle.item_store.specs.Store.{Store, slot_key}
use Rattle.item_store.specs.Table.{Outcome}
use Rattle.item_store.specs.declared.slot.SlotNo.{SlotNo}
use Rattle.branch_tree.specs.Frame.{Frame}
use Rattle.saved_steps.specs.Steps.{is_write}
use Rattle.saved_steps.specs.declared.answering.Answered.{Answered}
use Rattle.saved_steps.specs.declared.answering.Touch.{Touch}
use Rattle.saved_steps.specs.declared.made.Change.{Change}
use Rattle.saved_steps.specs.declared.made.Change.TheVariants as change

-- what is decided on the item in a slot
pub record IsAnswerAt (d : Decision) (key : Key) (slot : SlotNo) (a : Answered) : Type 0 where
  pub answer : reply_of a.answer ≡ d.answer
  pub touch : a.touch ≡ Some (record { access = record { key = key; mode = d.access }; slot = slot; new = d.new })

-- no access, or that of the item in this slot, and of a write the item that stands afterwards
abbrev pub IsTouch : Store → Outcome → Option Touch → Type 0
IsTouch items o None = o.access ≡ None
IsTouch items o (Some t) =
    (o.access ≡ Some (t.access.key, t.access.mode)) × (slot_key items t.slot ≡ Some t.access.key) × (is_write t.access.mode ≡ true → t.new ≡ o.items t.access.key)

-- what the table answers, with the slot in this store
pub record IsAnswered (items : Store) (o : Outcome) (a : Answered) : Type 0 where
  pub answer : reply_of a.answer ≡ o.answer
  pub touch : IsTouch items o a.touch

-- the change of a thread's frame, and of the item that its call touches
abbrev pub change_from : Frame → Option Touch → Change
change_from f None = change.Plain f
change_from f (Some t) = change.Call f t.access t.slot t.new
