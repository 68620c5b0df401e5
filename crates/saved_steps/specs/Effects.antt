-- What a step does, in the world in which it is taken (Amazon States Language: "States", "Parallel State", "Map State", "Errors").
use Rattle.std.specs.Prelude.{ℕ, ◌+◌, ◌==◌, Bool, true, ◌&&◌, not, List, [], ◌∷◌, map, if◌then◌else◌, Option, Some, None, is_some, option_map, option_and_then}
use Rattle.std.specs.List.{range_with_len}
use Rattle.json_tree.specs.Data.{Data}
use Rattle.json_tree.specs.View.{data_of}
use Rattle.json_tree.specs.declared.tree.Json.{Json}
use Rattle.attr_values.specs.declared.key.Key.{Key}
use Rattle.item_store.specs.Deciding.{ItemAttributes}
use Rattle.item_store.specs.Table as table
use Rattle.item_store.specs.declared.access.AccessMode.{AccessMode}
use Rattle.branch_tree.specs.Definition.{Definition}
use Rattle.asl_forward.specs.Outcomes.{turn}
use Rattle.asl_forward.specs.Results.{Work, state_work, after_answer, after_branch, after_join}
use Rattle.branch_tree.specs.Turn.{Location, located, first_frame}
use Rattle.branch_tree.specs.Fault.{Fault}
use Rattle.branch_tree.specs.Frame.{Frame}
use Rattle.branch_tree.specs.Phase.{Phase}
use Rattle.branch_tree.specs.Phase.TheVariants.{Ready, Parked, Done, Failed}
use Rattle.branch_tree.specs.Bounds.{place_of}
use Rattle.branch_tree.specs.Ready.{begins_under, bound_over}
use Rattle.asl_forward.specs.declared.prepared.Outcome.{Outcome}
use Rattle.asl_forward.specs.declared.prepared.Outcome.TheVariants as outcome
use Rattle.step_names.specs.Thread.{Thread, execution, child_of}
use Rattle.step_names.specs.declared.step.StepName.{StepName}
use Rattle.saved_steps.specs.Steps.{Step, started, moved, start_name}
use Rattle.saved_steps.specs.Held.{paths_of}
use Rattle.saved_steps.specs.World.{Setting, World}
use Rattle.saved_steps.specs.declared.fact.Fact.{Fact}
use Rattle.saved_steps.specs.declared.fact.Kind.{Kind}
use Rattle.saved_steps.specs.declared.fact.Kind.TheVariants.{Start, Plain, Call, Fork, Join, Terminate}

-- What a step does: the frame that its thread has afterwards, the frames with which the branches of a fork begin, and the
-- item that stands at the key of a write.
pub record Effect : Type 0 where
  pub fact : Fact
  pub frame : Frame
  pub branches : List Frame
  pub item : Option ItemAttributes

-- a thread's moves are numbered from 1
abbrev pub next_step : Thread → Frame → StepName
next_step t f = record { thread = t; no = f.count + 1 }

-- a step that gives its thread this frame, and does nothing else
abbrev pub own_effect : Kind → StepName → Frame → Effect
own_effect kind name g = record { fact = record { name = name; kind = kind; access = None; bound = 0 }; frame = g; branches = []; item = None }

abbrev pub fork_effect : StepName → Frame → List Frame → Effect
fork_effect name g branches = record { fact = record { name = name; kind = Fork; access = None; bound = 0 }; frame = g; branches = branches; item = None }

-- ---- a call: without an access, where it is refused for its table's name or its key, it is a plain step

abbrev pub called : StepName → Frame → table.Table → Option (Key × AccessMode) → Effect
called name g items None = own_effect Plain name g
called name g items (Some (key, mode)) =
    record { fact = record { name = name; kind = Call; access = Some record { key = key; mode = mode }; bound = 0 }; frame = g; branches = []; item = items key }

abbrev pub call_effect : StepName → Definition → Work → Frame → table.Outcome → Effect
call_effect name level work f o = called name (after_answer level work f o.answer) o.items o.access

-- ---- a thread that is ready

abbrev pub effect_of_turn : Setting → World → StepName → Location → Frame → Outcome → Option Effect
effect_of_turn s w name at f (outcome.Next g) = Some (own_effect Plain name g)
effect_of_turn s w name at f (outcome.Fork g branches) = Some (fork_effect name g branches)
effect_of_turn s w name at f (outcome.Call c) = option_map (λ work. call_effect name at.0 work f (table.in_form s.table s.schema w.items c)) (state_work at.1)

-- ---- a thread that waits for its branches

-- the frames of the branches, in order
abbrev pub kids : World → Thread → Frame → ℕ → List (Option Frame)
kids w t f n = map (λ i. w.frames (child_of t f.count i)) (range_with_len 0 n)

abbrev pub fault_of : Phase → Option Fault
fault_of Ready = None
fault_of (Parked n bound) = None
fault_of (Done output) = None
fault_of (Failed fault) = Some fault

abbrev pub output_of : Phase → Option Data
output_of Ready = None
output_of (Parked n bound) = None
output_of (Done output) = Some (data_of output)
output_of (Failed fault) = None

abbrev pub or_else : {A : Type 0} → Option A → Option A → Option A
or_else (Some x) other = Some x
or_else None other = other

-- the error of the first branch that has failed
abbrev pub first_fault : List (Option Frame) → Option Fault
first_fault [] = None
first_fault (f ∷ fs) = or_else (option_and_then (λ g. fault_of g.phase) f) (first_fault fs)

-- the outputs of the branches, where each is done
abbrev pub outputs : List (Option Frame) → Option (List Data)
outputs [] = Some []
outputs (f ∷ fs) = option_and_then (λ d. option_map (λ ds. d ∷ ds) (outputs fs)) (option_and_then (λ g. output_of g.phase) f)

abbrev pub join_effect : StepName → Location → Frame → List Data → Option Effect
join_effect name at f ds = option_map (λ work. own_effect Join name (after_join at.0 work f ds)) (state_work at.1)

-- it terminates where a branch has failed, whatever the others do, and joins where all are done
abbrev pub close_effect : StepName → Location → Frame → Option Fault → Option (List Data) → Option Effect
close_effect name at f (Some fault) ds = Some (own_effect Terminate name (after_branch at f fault))
close_effect name at f None ds = option_and_then (join_effect name at f) ds

abbrev pub effect_over : StepName → Location → Frame → List (Option Frame) → Option Effect
effect_over name at f fs = close_effect name at f (first_fault fs) (outputs fs)

-- ---- a thread that has made no move

-- it waits until the fork that it is a branch of lets it begin
abbrev pub waits : (Thread → Option Frame) → Thread → Frame → Bool
waits frames t f = f.count == 0 && not (begins_under true (paths_of frames t.exec) (place_of t.path))

-- the bound of that fork
abbrev pub first_bound : (Thread → Option Frame) → Thread → Frame → ℕ
first_bound frames t f = if f.count == 0 then bound_over (paths_of frames t.exec) (place_of t.path) else 0

-- an effect, told with a bound
abbrev pub effect_with_bound : ℕ → Effect → Effect
effect_with_bound n d = record { fact = record { name = d.fact.name; kind = d.fact.kind; access = d.fact.access; bound = n }; frame = d.frame; branches = d.branches; item = d.item }

abbrev pub turn_effect : (Thread → Option Frame) → Thread → Frame → Option Effect → Option Effect
turn_effect frames t f o = if waits frames t f then None else option_map (effect_with_bound (first_bound frames t f)) o

-- ---- moves

abbrev pub effect_in : Setting → World → Thread → Location → Frame → Phase → Option Effect
effect_in s w t at f Ready = turn_effect w.frames t f (effect_of_turn s w (next_step t f) at f (turn at f))
effect_in s w t at f (Parked n bound) = effect_over (next_step t f) at f (kids w t f n)
effect_in s w t at f (Done output) = None
effect_in s w t at f (Failed fault) = None

abbrev pub stands : Setting → Frame → Option Location
stands s f = option_and_then (λ d. located d f) (s.machines f.level.machine)

abbrev pub frame_effect : Setting → World → Thread → Frame → Option Effect
frame_effect s w t f = option_and_then (λ at. effect_in s w t at f f.phase) (stands s f)

-- what a thread's move would do; nothing, where it has no frame, waits, is done or has failed
abbrev pub move_effect : Setting → World → Thread → Option Effect
move_effect s w t = option_and_then (frame_effect s w t) (w.frames t)

-- ---- starts

-- a start needs a machine that is known, and that no execution of its name is there
abbrev pub start_effect : Setting → World → List ℕ → List ℕ → Json → Option Effect
start_effect s w exec machine input =
    if is_some (w.frames (execution exec)) then None else option_map (λ d. own_effect Start (start_name exec) (first_frame machine d input)) (s.machines machine)

-- ---- steps

-- the effect is of the step with this number
abbrev pub if_numbered : ℕ → Effect → Option Effect
if_numbered number d = if d.fact.name.no == number then Some d else None

-- what a step does; a move is taken where it is the next of its thread
abbrev pub effect_of : Setting → World → Step → Option Effect
effect_of s w (started exec machine input) = start_effect s w exec machine input
effect_of s w (moved name) = option_and_then (if_numbered name.no) (move_effect s w name.thread)
