-- Which later places are due in a plan, and which classes were opened for a step.
use Rattle.std.specs.Prelude.{◌≡◌, ◌<◌, ◌≤◌, ◌+◌, ◌||◌, ◌⊎◌, ℕ, Bool, true, false, List, Option, None, Some, length, nat_eq, slice_get}
use Rattle.std.specs.BinaryHeap.{heap_items}
use Rattle.std.specs.HashSet.{contains as has_class}
use Rattle.linked_classes.specs.Cells.{cell_at}
use Rattle.saved_steps.specs.Steps.{is_fork, is_write}
use Rattle.saved_steps.specs.declared.fact.Access.{Access}
use Rattle.saved_steps.specs.declared.fact.Fact.{Fact}
use Rattle.saved_steps.specs.declared.record.StepRecord.{StepRecord}
use Rattle.depends.specs.Dependence.{is_start}
use Rattle.step_index.specs.Buckets.{by_thread, by_exec, by_gate, by_key, by_write, exec_bucket, thread_bucket, key_bucket}
use Rattle.step_index.specs.Queue.{has_place}
use Rattle.step_index.specs.Records.{classes_by}
use Rattle.step_index.specs.declared.due.DuePlaces.{DuePlaces}

-- what has one set has the other
abbrev pub Keeps : (ℕ → Bool) → (ℕ → Bool) → Type 0
Keeps old new = (k : ℕ) → old k ≡ true → new k ≡ true

-- each place of an opened class, from one on, is due
abbrev pub AllDue : List (Option ℕ) → ℕ → (ℕ → Bool) → (ℕ → Bool) → Type 0
AllDue classes from due opened = (k c : ℕ) → from ≤ k → cell_at classes k ≡ Some c → opened c ≡ true → due k ≡ true

-- places came to those that are due, and only such of which this holds
pub record IsGrown (P : ℕ → Type 0) (old new : ℕ → Bool) : Type 0 where
  pub kept : Keeps old new
  pub others : (k : ℕ) → new k ≡ true → (old k ≡ true) ⊎ P k

-- a place is one of so many behind another, and in this class
abbrev pub IsBehind : List (Option ℕ) → ℕ → ℕ → ℕ → Type 0
IsBehind classes class at k = (at < k) × (k < length classes) × (cell_at classes k ≡ Some class)

abbrev pub is_due : DuePlaces → ℕ → Bool
is_due d = has_place (heap_items d.places.heap)

-- the due places are places of these records from one on, and each such place of an opened class is due
pub record AreDue (rs : List StepRecord) (from : ℕ) (d : DuePlaces) : Type 0 where
  pub within : (k : ℕ) → is_due d k ≡ true → (from ≤ k) × (k < length rs)
  pub threaded : AllDue (classes_by by_thread rs) from (is_due d) (has_class nat_eq d.threads)
  pub run : AllDue (classes_by by_exec rs) from (is_due d) (has_class nat_eq d.execs)
  pub gated : AllDue (classes_by by_gate rs) from (is_due d) (has_class nat_eq d.gates)
  pub keyed : AllDue (classes_by by_key rs) from (is_due d) (has_class nat_eq d.keys)
  pub wrote : AllDue (classes_by by_write rs) from (is_due d) (has_class nat_eq d.writes)

-- each class that was open is open
pub record AreKept (old new : DuePlaces) : Type 0 where
  pub threads : Keeps (has_class nat_eq old.threads) (has_class nat_eq new.threads)
  pub execs : Keeps (has_class nat_eq old.execs) (has_class nat_eq new.execs)
  pub gates : Keeps (has_class nat_eq old.gates) (has_class nat_eq new.gates)
  pub keys : Keeps (has_class nat_eq old.keys) (has_class nat_eq new.keys)
  pub writes : Keeps (has_class nat_eq old.writes) (has_class nat_eq new.writes)

-- classes were opened for the step at a place: later places came, of steps that pass a test
pub record IsFurther (test : Fact → Bool) (rs : List StepRecord) (at : ℕ) (old new : DuePlaces) : Type 0 where
  pub kept : AreKept old new
  pub grown : IsGrown (λ k. (g : StepRecord) → slice_get rs k ≡ Some g → test g.fact ≡ true) (is_due old) (is_due new)
  pub due : AreDue rs (at + 1) old → AreDue rs (at + 1) new

-- ---- the classes in which each later step is that depends directly on one

-- by its name: its execution; or, if it makes no threads, its thread, and the gates of its execution
abbrev pub IsOpenByName : DuePlaces → Fact → Type 0
IsOpenByName d f =
    (has_class nat_eq d.execs (exec_bucket f.name.thread.exec) ≡ true)
    ⊎ (((is_start f.kind || is_fork f.kind) ≡ false) × (has_class nat_eq d.threads (thread_bucket f.name.thread) ≡ true) × (has_class nat_eq d.gates (exec_bucket f.name.thread.exec) ≡ true))

-- for an item: the accesses of its key; or, if it read, the writes of it
abbrev pub IsOpenByAccess : DuePlaces → Option Access → Type 0
IsOpenByAccess d None = Unit {0}
IsOpenByAccess d (Some a) = (has_class nat_eq d.keys (key_bucket a.key) ≡ true) ⊎ ((is_write a.mode ≡ false) × (has_class nat_eq d.writes (key_bucket a.key) ≡ true))

pub record HasOpenClasses (d : DuePlaces) (f : Fact) : Type 0 where
  pub named : IsOpenByName d f
  pub accessed : IsOpenByAccess d f.access

-- ---- the least due place is taken

pub record IsTakenAt (rs : List StepRecord) (from : ℕ) (old new : DuePlaces) (place : ℕ) : Type 0 where
  pub low : from ≤ place
  pub within : place < length rs
  pub least : (k : ℕ) → k < place → is_due old k ≡ false
  pub kept : AreKept old new
  pub there : is_due old place ≡ true
  pub fewer : Keeps (is_due new) (is_due old)
  pub due : AreDue rs (place + 1) new

abbrev pub IsPlaceTaken : List StepRecord → ℕ → DuePlaces → DuePlaces → Option ℕ → Type 0
IsPlaceTaken rs from old new None = (k : ℕ) → is_due old k ≡ false
IsPlaceTaken rs from old new (Some place) = IsTakenAt rs from old new place
