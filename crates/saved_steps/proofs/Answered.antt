-- What is made ready of a call.
use Rattle.std.proofs.Common.{◌≡◌, Bool, true, false, cond, refl, sym, ap, ◌∙◌, subst, Option, Some, Result, Ok, Err}
use Rattle.std.specs.Prelude.{IfOk}
use Rattle.attr_values.specs.declared.key.Key.{Key}
use Rattle.item_store.specs.Deciding.{ItemAttributes, Decision}
use Rattle.item_store.specs.Store.{Store, slot_key, has_slot_of, with_slot}
use Rattle.item_store.specs.Table.{Table, table_after, at_key}
use Rattle.item_store.specs.declared.access.AccessMode.{AccessMode}
use Rattle.item_store.specs.declared.access.AccessMode.TheVariants.{Read, Write}
use Rattle.item_store.specs.declared.slot.SlotNo.{SlotNo}
use Rattle.attr_values.proofs.Same.{key_eq_both}
use Rattle.saved_steps.specs.Answering.{IsAnswerAt, IsTouch, IsAnswered}
use Rattle.saved_steps.specs.Made.{KeepsStore}
use Rattle.saved_steps.specs.Steps.{is_write}
use Rattle.saved_steps.specs.declared.answering.Answered.{Answered}

pub if_ok : {A E : Type 0} (r : Result A E) (P Q : A → Type 0) → IfOk r P → ((x : A) → P x → Q x) → IfOk r Q
if_ok (Ok x) P Q h k = k x h
if_ok (Err e) P Q h k = h

after_write : (items : Table) (key : Key) (mode : AccessMode) (new : Option ItemAttributes) → is_write mode ≡ true → new ≡ table_after items key mode new key
after_write items key Read new h = cc
after_write items key Write new h = rw ((key_eq_both key key).1 refl) refl

pub touched : (store : Store) (items : Table) (d : Decision) (key : Key) (slot : SlotNo) (a : Answered) → slot_key store slot ≡ Some key → IsAnswerAt d key slot a → IsAnswered store (at_key items key d) a
touched store items d key slot a k h = record {
  answer = h.answer;
  touch = subst (IsTouch store (at_key items key d)) (sym h.touch) (refl, k, after_write items key d.access d.new);
}

with_slot_table : (has : Bool) (s t : Store) → t.table ≡ s.table → (cond has s t).table ≡ s.table
with_slot_table true s t h = refl
with_slot_table false s t h = h

with_slot_schema : (has : Bool) (s t : Store) → t.schema ≡ s.schema → (cond has s t).schema ≡ s.schema
with_slot_schema true s t h = refl
with_slot_schema false s t h = h

pub slotted : (s t : Store) (key : Key) → t ≡ with_slot s key → ((n : SlotNo) (q : Key) → slot_key s n ≡ Some q → slot_key t n ≡ Some q) → KeepsStore s t
slotted s t key e h = record {
  slots = h;
  table = ap (λ (x : Store). x.table) e ∙ with_slot_table (has_slot_of s key) s _ refl;
  schema = ap (λ (x : Store). x.schema) e ∙ with_slot_schema (has_slot_of s key) s _ refl;
}
