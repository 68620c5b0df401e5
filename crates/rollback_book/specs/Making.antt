-- What is made ready of a command before it is entered.
use Rattle.std.specs.Prelude.{◌≡◌, ◌+◌, ◌≤◌, ◌==◌, ℕ, Bool, List, length, slice_get, option_map, Some, None, Result, Ok}
use Rattle.depends.specs.Plans.{plan}
use Rattle.saved_steps.specs.Effects as effects
use Rattle.saved_steps.specs.Made.{CanApply, IsMadeFor}
use Rattle.saved_steps.specs.Steps.{Step, started, moved}
use Rattle.saved_steps.specs.declared.made.Made.{Made as MadeStep}
use Rattle.step_history.specs.History.{HasRoom, history_records, history_world}
use Rattle.step_history.specs.SettledNames.{HasRoomFor}
use Rattle.saved_steps.specs.declared.record.StepRecord.{StepRecord}
use Rattle.step_names.specs.declared.step.StepName.{StepName}
use Rattle.book_log.specs.Answers.{plan_answer}
use Rattle.book_log.specs.Legal.{IsAccepted}
use Rattle.book_log.specs.Log.{Log, consequences_of, log_facts, setting_of, world_of}
use Rattle.book_log.specs.declared.entry.Entry.{Entry}
use Rattle.book_log.specs.declared.entry.Entry.TheVariants.{Define, Start, Step as Stepped, Undo, Rollback, Settle, Hold}
use Rattle.book_log.specs.declared.refusal.Refusal.{Refusal}
use Rattle.book_events.specs.Answered.{entry_by}
use Rattle.rollback_book.specs.Book.{BookView, IsMaximalPlace, machine_place}
use Rattle.std.specs.List.{list_any}
use Rattle.step_index.specs.Held.{AreLeft}
use Rattle.rollback_book.specs.Holding.{HasHeldRoom, IsHoldFor}
use Rattle.rollback_book.specs.declared.hold.Hold as holds
use Rattle.rollback_book.specs.declared.making.Made.{Made}
use Rattle.rollback_book.specs.declared.making.MadeChange.{MadeChange}
use Rattle.rollback_book.specs.declared.making.MadeChange.TheVariants as made

-- ---- what can be entered

-- the entry for which everything is made
abbrev pub made_entry : Result Made Refusal → Result Entry Refusal
made_entry = entry_by (λ m. m.entry)

-- everything is made for this step, which can be taken
pub record IsStepFor (b : BookView) (step : Step) (m : MadeStep) : Type 0 where
  pub effect : effects.Effect
  pub is : effects.effect_of (setting_of b.log) (world_of b.log) step ≡ Some effect
  pub made : IsMadeFor m effect
  pub ready : CanApply (history_world b.history) m
  pub room : HasRoom b.history
  pub held_room : HasHeldRoom b.held

-- the places are those of a step and its consequences, which have these names
pub record ArePlacesOf (log : Log) (name : StepName) (undone : List StepName) (places : List ℕ) : Type 0 where
  pub names : plan_answer log name ≡ Ok undone
  -- the step stands at this place
  pub at : ℕ
  pub there : option_map (λ f. f.name) (slice_get (log_facts log) at) ≡ Some name
  pub are : places ≡ plan (log_facts log) at

-- everything is made to roll a step back
abbrev pub IsMadeRollback : Log → StepName → Made → Type 0
IsMadeRollback log name m =
    (undone : List StepName) × (places : List ℕ) × (m ≡ record { entry = Rollback name undone; change = made.Rollback places }) × ArePlacesOf log name undone places

-- a definition has an empty place, a step can be applied, a step that is undone has no dependent, the places of a rollback are those of
-- its names, there is room for the names of what is settled, and what is held is marked
abbrev pub CanEnterChange : BookView → Entry → MadeChange → Type 0
CanEnterChange b (Define name machine) (made.Define place shared) = (place ≡ name) × (shared ≡ machine) × (machine_place b.places name ≡ Some None)
CanEnterChange b (Start exec machine input) (made.Step m) = IsStepFor b (started exec.exec machine input) m
CanEnterChange b (Stepped name kind) (made.Step m) = IsStepFor b (moved name) m
CanEnterChange b (Undo name) (made.Undo at) = IsMaximalPlace b name at
CanEnterChange b (Rollback name undone) (made.Rollback places) = ArePlacesOf b.log name undone places
CanEnterChange b Settle made.Settle = HasRoomFor b.settled (length (history_records b.history))
CanEnterChange b (Hold name count) (made.Hold h) = IsHoldFor b.log (history_records b.history) name h
CanEnterChange b _ _ = ⊥

-- there is room for one more entry, and for that of its undoing
abbrev pub HasLogRoom : BookView → Type 0
HasLogRoom b = length b.log.entries + length (history_records b.history) + 2 ≤ b.capacity

-- an entry that takes a step back has the room that was made when the step was taken
abbrev pub HasRoomToEnter : BookView → MadeChange → Type 0
HasRoomToEnter b (made.Undo at) = Unit {0}
HasRoomToEnter b (made.Rollback places) = Unit {0}
HasRoomToEnter b _ = HasLogRoom b

-- The command is accepted, everything is made for it, and there is room for its entry and that of its undoing: the book is as it was
-- left when this was made.
pub record CanEnter (b : BookView) (m : Made) : Type 0 where
  pub is_accepted : IsAccepted b.log m.entry
  pub fits : CanEnterChange b m.entry m.change
  pub room : HasRoomToEnter b m.change

-- everything is made to hold the steps at these places
abbrev pub IsMadeHold : StepName → List StepRecord → List ℕ → Made → Type 0
IsMadeHold name rs places m =
    (h : holds.Hold) × (m ≡ record { entry = Hold name (length places); change = made.Hold h }) × (h.step ≡ name) × AreLeft rs h.left
    × ((k : ℕ) (mark : Bool) → slice_get h.left.marks k ≡ Some mark → mark ≡ list_any (λ p. p == k) places)

-- everything is made to hold so many steps
abbrev pub MakesHold : Log → List StepRecord → StepName → Made → Type 0
MakesHold log rs name m =
    (h : holds.Hold) × (m ≡ record { entry = Hold name (length (consequences_of log name)); change = made.Hold h }) × IsHoldFor log rs name h
