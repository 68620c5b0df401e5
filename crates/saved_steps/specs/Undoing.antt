-- A step that is applied to the world as it is held, and its record undone.
use Rattle.std.specs.Prelude.{◌≡◌, ◌-◌, true, [], Option, Some, None}
use Rattle.item_store.specs.Store.{Store, slot_key}
use Rattle.item_store.specs.declared.slot.SlotNo.{SlotNo}
use Rattle.branch_tree.specs.FlatMap.{is_parked}
use Rattle.branch_tree.specs.Tree.{IsNode}
use Rattle.saved_steps.specs.Effects.{Effect}
use Rattle.saved_steps.specs.Held.{frames_of, world_view}
use Rattle.saved_steps.specs.Saving.{kept, undo}
use Rattle.saved_steps.specs.Made.{is_unparked, IsThreadOpen, IsParkedSince, fact_made, IsMadeFor, KeepsStore}
use Rattle.saved_steps.specs.Records.{saved_by}
use Rattle.saved_steps.specs.Run.{after_effect}
use Rattle.saved_steps.specs.Steps.{is_close}
use Rattle.saved_steps.specs.declared.fact.Access.{Access}
use Rattle.saved_steps.specs.declared.fact.Fact.{Fact}
use Rattle.saved_steps.specs.declared.fact.Kind.TheVariants as kind
use Rattle.saved_steps.specs.declared.made.Made.{Made}
use Rattle.saved_steps.specs.declared.record.Saved.{Saved}
use Rattle.saved_steps.specs.declared.record.Saved.TheVariants.{Started, Framed, Called, Forked, Closed}
use Rattle.saved_steps.specs.declared.record.StepRecord.{StepRecord}
use Rattle.saved_steps.specs.declared.world.World.{World}

-- what is saved fits the step: of its kind, and a frame that stood there before such a step
abbrev pub IsSavedOf : Fact → Saved → Type 0
IsSavedOf s Started = (s.kind ≡ kind.Start) × (s.access ≡ None) × (s.name.thread.path ≡ [])
IsSavedOf s (Framed f) = (s.kind ≡ kind.Plain) × (s.access ≡ None) × is_unparked f
IsSavedOf s (Called f slot old) = (s.kind ≡ kind.Call) × is_unparked f
IsSavedOf s (Forked f) = (s.kind ≡ kind.Fork) × (s.access ≡ None) × is_unparked f
IsSavedOf s (Closed f kids) = (is_close s.kind ≡ true) × (s.access ≡ None) × IsNode f kids.items × (is_parked f.phase ≡ true) × (f.count ≡ s.name.no - 1)

-- a record as a step leaves it
abbrev pub IsRecord : StepRecord → Type 0
IsRecord r = IsSavedOf r.fact r.saved

-- the slot of the key of an access
abbrev pub IsSlotOf : Store → Option Access → SlotNo → Type 0
IsSlotOf items access slot = (a : Access) × (access ≡ Some a) × (slot_key items slot ≡ Some a.key)

-- the slot that a call names is that of its key
abbrev pub HasSlot : Store → Fact → Saved → Type 0
HasSlot items s Started = Unit {0}
HasSlot items s (Framed f) = Unit {0}
HasSlot items s (Called f slot old) = IsSlotOf items s.access slot
HasSlot items s (Forked f) = Unit {0}
HasSlot items s (Closed f kids) = Unit {0}

-- the thread stands where the step left it: a fork's is parked since then, and any other's isn't parked
abbrev pub StandsAfter : World → Fact → Saved → Type 0
StandsAfter w s Started = IsThreadOpen (frames_of w) s.name.thread
StandsAfter w s (Framed f) = IsThreadOpen (frames_of w) s.name.thread
StandsAfter w s (Called f slot old) = IsThreadOpen (frames_of w) s.name.thread
StandsAfter w s (Forked f) = IsParkedSince (frames_of w) s.name.thread s.name.no
StandsAfter w s (Closed f kids) = IsThreadOpen (frames_of w) s.name.thread

-- the record can be undone in this world
pub record CanUndo (w : World) (r : StepRecord) : Type 0 where
  pub record_fits : IsRecord r
  pub slot : HasSlot w.items r.fact r.saved
  pub thread : StandsAfter w r.fact r.saved

-- The first world becomes the second where a step is applied: what its effect makes of it. The record has the step's fact and what
-- that keeps, it can be undone, and undone it gives the first world.
pub record IsApplied (w : World) (m : Made) (v : World) (r : StepRecord) : Type 0 where
  pub fact : r.fact ≡ fact_made m
  pub world : (d : Effect) → IsMadeFor m d → world_view v ≡ after_effect (world_view w) d
  pub saved : saved_by r ≡ kept (world_view w) r.fact
  pub undoable : CanUndo v r
  pub back : undo (world_view v) r.fact (saved_by r) ≡ world_view w
  pub store : KeepsStore w.items v.items

-- the first world becomes the second where a record is undone
pub record IsUndone (w : World) (r : StepRecord) (v : World) : Type 0 where
  pub world : world_view v ≡ undo (world_view w) r.fact (saved_by r)
  pub store : KeepsStore w.items v.items
