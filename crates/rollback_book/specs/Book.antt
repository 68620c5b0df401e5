-- A book as its contracts see it: its log, and what it holds for that.
use Rattle.std.specs.Prelude.{◌≡◌, ◌+◌, ◌≤◌, ℕ, List, length, map, position, Option, Some, None, Ok, vec_capacity}
use Rattle.std.specs.Global.{Vec}
use Rattle.std.specs.Ordering.{nat_cmp}
use Rattle.std.specs.Cmp.Lexicographic.{slice_cmp}
use Rattle.std.specs.BTreeMap.{BTreeMap, is_at}
use Rattle.std.specs.Map.{lookup}
use Rattle.asl_tree.specs.Definition.{Definition}
use Rattle.depends.specs.Plans.{first_dependent}
use Rattle.saved_steps.specs.Held.{world_view}
use Rattle.saved_steps.specs.Steps.{name_of}
use Rattle.saved_steps.specs.World.{is_same_step}
use Rattle.step_history.specs.SettledNames.{SettledNamesView}
use Rattle.step_names.specs.declared.step.StepName.{StepName}
use Rattle.step_history.specs.History.{IsHistory, history_records, history_world}
use Rattle.step_history.specs.declared.history.History.{History}
use Rattle.book_log.specs.Answers.{undo_answer, most_steps, most_places}
use Rattle.book_log.specs.Legal.{IsLegal}
use Rattle.book_log.specs.declared.begin.Begin.{Begin}
use Rattle.book_log.specs.declared.entry.Entry.{Entry}
use Rattle.rollback_book.specs.Holding.{IsHoldOf}
use Rattle.rollback_book.specs.declared.hold.Hold.{Hold}
use Rattle.book_log.specs.Log.{Log, base_of, settled, machine_of, past_of, run_of, setting_of}

-- places of machines, each with its name: a place may be empty
abbrev pub Places : Type 0
Places = List (List ℕ × Option Definition)

abbrev pub machine_place : Places → List ℕ → Option (Option Definition)
machine_place places name = lookup (is_at (slice_cmp nat_cmp name)) places

-- the machine in a place, if it is not empty
abbrev pub placed_machine : Option (Option Definition) → Option Definition
placed_machine None = None
placed_machine (Some place) = place

-- The log is what a book is; it holds the history of its remaining steps, places for machines, room for so many entries, the
-- names of the steps that were settled, and what is left of a hold.
pub record BookView : Type 0 where
  pub log : Log
  pub history : History
  pub places : Places
  pub capacity : ℕ
  pub settled : SettledNamesView
  pub held : Option Hold

-- a book of these fields
abbrev pub book_view : Begin → BTreeMap (List ℕ) (Option Definition) → History → Vec Entry → SettledNamesView → Option Hold → BookView
book_view begin machines history entries settled held = record { log = record { begin = begin; entries = entries.items }; history = history; places = machines.entries; capacity = vec_capacity entries; settled = settled; held = held }

-- what a book holds belongs to its log
pub record BookInvariant (b : BookView) : Type 0 where
  pub legal : IsLegal b.log
  -- the history is the run of the remaining steps from their base
  pub history : IsHistory (setting_of b.log) (base_of b.log) (past_of b.log) b.history
  pub run : run_of b.log ≡ Some (world_view (history_world b.history), past_of b.log)
  pub machines : (name : List ℕ) → placed_machine (machine_place b.places name) ≡ machine_of b.log name
  pub names : b.settled.items ≡ map name_of (settled b.log)
  pub held : IsHoldOf b.log (history_records b.history) b.held
  -- there is room for the entry of each remaining step's undoing
  pub room : length b.log.entries + length (history_records b.history) ≤ b.capacity
  pub few : length (history_records b.history) ≤ most_steps
  pub bounded : length b.log.entries + length (history_records b.history) ≤ most_places

-- the step of this name stands at a place
abbrev pub IsStepAt : BookView → StepName → ℕ → Type 0
IsStepAt b name at = position (λ r. is_same_step r.fact.name name) (history_records b.history) ≡ Some at

-- it may be undone there
pub record IsMaximalPlace (b : BookView) (name : StepName) (at : ℕ) : Type 0 where
  pub there : IsStepAt b name at
  pub free : first_dependent (map (λ r. r.fact) (history_records b.history)) at ≡ None
  pub answer : undo_answer b.log name ≡ Ok name
