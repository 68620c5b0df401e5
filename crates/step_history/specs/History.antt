-- The steps that remain, with what is kept of each, and the world that they give.
use Rattle.std.specs.Prelude.{◌≡◌, ◌<◌, ℕ, true, List, [], ◌∷◌, None, length, map}
use Rattle.item_store.specs.Store.{Store, stored_items}
pub use Rattle.depends.specs.Instance.{TakenStep, taken_in}
use Rattle.depends.specs.Instance.{steps}
use Rattle.depends.specs.Laws.{IsFrom}
use Rattle.depends.specs.Plans.{plan}
use Rattle.trace_theory.specs.Traces.{IsRun}
use Rattle.saved_steps.specs.Held.{store_of, world_view}
use Rattle.saved_steps.specs.Records.{saved_by}
use Rattle.saved_steps.specs.Undoing.{IsRecord, HasSlot}
use Rattle.saved_steps.specs.World.{Setting, World}
use Rattle.saved_steps.specs.declared.record.StepRecord.{StepRecord}
use Rattle.saved_steps.specs.declared.world.World as held
use Rattle.step_history.specs.declared.history.History.{History}

-- no executions, over the items of a store
abbrev pub nothing_over : Store → World
nothing_over items = record { frames = λ t. None; items = stored_items items }

-- what a history holds, as the contracts above it see it: the world that its steps gave, the items of the table, and the record
-- of each step, in order
abbrev pub history_world : History → held.World
history_world h = h.world

abbrev pub history_items : History → Store
history_items h = store_of h.world

abbrev pub history_records : History → List StepRecord
history_records h = h.records.items

-- the record of a step that was taken: its fact, what it kept, and the slot of its key
pub record IsRecordOf (items : Store) (r : StepRecord) (t : TakenStep) : Type 0 where
  pub fact : r.fact ≡ t.fact
  pub kept : saved_by r ≡ t.saved
  pub fits : IsRecord r
  pub slot : HasSlot items r.fact r.saved

-- each record is that of the step at its place
abbrev pub AreRecordsOf : Store → List StepRecord → List TakenStep → Type 0
AreRecordsOf items [] [] = Unit {0}
AreRecordsOf items [] (t ∷ ts) = ⊥
AreRecordsOf items (r ∷ rs) [] = ⊥
AreRecordsOf items (r ∷ rs) (t ∷ ts) = IsRecordOf items r t × AreRecordsOf items rs ts

-- In this setting the steps were taken one after another from a base, which a run reaches from a world without executions; they
-- gave the world, and the records are theirs.
pub record IsHistory (s : Setting) (base : World) (ts : List TakenStep) (h : History) : Type 0 where
  pub table : s.table ≡ (store_of h.world).table
  pub schema : s.schema ≡ (store_of h.world).schema
  pub from : IsFrom s base
  pub runs : IsRun (steps s) base ts (world_view h.world)
  pub records : AreRecordsOf (store_of h.world) h.records.items ts

-- there is room for one more record
abbrev pub HasRoom : History → Type 0
HasRoom h = h.records.has_room ≡ true

-- it is the history of some steps in some setting
abbrev pub IsSomeHistory : History → Type 0
IsSomeHistory h = (s : Setting) × (base : World) × (ts : List TakenStep) × IsHistory s base ts h

-- the plan of the step at some place
abbrev pub IsPlanOf : History → List ℕ → Type 0
IsPlanOf h places = (at : ℕ) × (at < length h.records.items) × (places ≡ plan (map (λ r. r.fact) h.records.items) at)
