-- What a command is answered, memory apart: each refusal exactly where it stands, in the order in which they are tested.
use Rattle.std.specs.Prelude.{◌≡◌, ℕ, ◌+◌, ◌||◌, List, [], ◌∷◌, ◌++◌, length, map, reverse, Bool, true, false, Option, None, Some, Result, Ok, Err, is_some, IsSome, IsTrue, ◌⊎◌, nat_le, nat_lt, if◌then◌else◌, option_map, option_and_then}
use Rattle.std.specs.List.{find, list_any}
use Rattle.serde_json.specs.Data.{Data}
use Rattle.asl_machine.specs.Refusal.{NamesMachineFault}
use Rattle.asl_machine.specs.Definition.{Definition}
use Rattle.asl_machine.specs.Faults.{DefinitionFault}
use Rattle.asl_machine.specs.Profile.{Defines, DefinesNone}
use Rattle.depends.specs.Ready.{readiness_at}
use Rattle.depends.specs.Readiness.{Readiness}
use Rattle.step_names.specs.Thread.{Thread}
use Rattle.step_names.specs.declared.step.StepName.{StepName}
use Rattle.trace_theory.specs.Traces.{run}
use Rattle.depends.specs.Frame.{Frame}
use Rattle.depends.specs.Effects.{Effect, move_effect}
use Rattle.depends.specs.Held.{paths_of}
use Rattle.depends.specs.Steps.{Step, started, moved, name_of, start_name}
use Rattle.depends.specs.World.{is_same_step}
use Rattle.depends.specs.Fact.{Fact}
use Rattle.depends.specs.Dependence.{depends_directly}
use Rattle.depends.specs.Instance.{TakenStep, steps}
use Rattle.book_log.specs.Log.{Log, appended, base_of, settled, remaining, step_on_hold, left_of, machine_of, setting_of, world_of, log_facts, consequences_of}
use Rattle.book_log.specs.declared.entry.Entry.{Entry}
use Rattle.book_log.specs.declared.entry.Entry.TheVariants.{Define, Start, Step as Stepped, Undo, Rollback, Settle, Hold}
use Rattle.book_log.specs.declared.moved.Moved.{Moved}
use Rattle.book_log.specs.declared.refusal.Refusal.{Refusal}
use Rattle.book_log.specs.declared.refusal.Refusal.TheVariants.{NoMachine, MachineTaken, BadMachine, ExecTaken, NoThread, NotReady, NoStep, HasDependents, Full, Memory, Settled, Held}

-- an answer that is given, unless memory runs out and it isn't a refusal
abbrev pub Gives : {T : Type 0} → Result T Refusal → Result T Refusal → Type 0
Gives result (Ok x) = (result ≡ Ok x) ⊎ (result ≡ Err Memory)
Gives result (Err e) = result ≡ Err e

-- the same; and in some cases out of memory for any answer
abbrev pub GivesOr : {T : Type 0} → Type 0 → Result T Refusal → Result T Refusal → Type 0
GivesOr lacks result answer = Gives result answer ⊎ ((result ≡ Err Memory) × lacks)

-- ---- room

-- so many steps may remain
abbrev pub most_steps : ℕ
most_steps = 65536

-- so many may entries and remaining steps be together
abbrev pub most_places : ℕ
most_places = 1000000

-- so many may they be before a step, which needs two places: its entry's, and that of its undoing
abbrev pub most_before_a_step : ℕ
most_before_a_step = 999998

-- no start or step is taken where the most steps remain, or where two more places would be too many
unfoldable pub is_full_for_step : Log → Bool
is_full_for_step log = nat_le most_steps (length (remaining log)) || nat_lt most_before_a_step (length log.entries + length (remaining log))

-- an entry that needs no place for an undoing is too many where the most places are taken: a definition's, or a settlement's
unfoldable pub is_full_for_define : Log → Bool
is_full_for_define log = nat_le most_places (length log.entries + length (remaining log))

-- ---- define

-- a definition that isn't read is no machine's, for the fault that is told; or memory was refused
abbrev pub IsReadRefusal : Data → Refusal → Type 0
IsReadRefusal d (BadMachine fault) = DefinesNone d × NamesMachineFault fault (DefinitionFault d fault)
IsReadRefusal d Memory = Unit {0}
IsReadRefusal d _ = ⊥

-- a definition is refused where its name is taken, where it is no machine's, where there is no room, or for memory
abbrev pub IsDefineRefusal : Log → List ℕ → Data → Refusal → Type 0
IsDefineRefusal log name d MachineTaken = IsSome (machine_of log name)
IsDefineRefusal log name d (BadMachine fault) = (machine_of log name ≡ None) × IsReadRefusal d (BadMachine fault)
IsDefineRefusal log name d Full = (machine_of log name ≡ None) × ((machine : Definition) × Defines d machine) × IsTrue (is_full_for_define log)
IsDefineRefusal log name d Memory = machine_of log name ≡ None
IsDefineRefusal log name d _ = ⊥

-- ---- start

unfoldable pub start_answer : Log → Thread → List ℕ → Result StepName Refusal
start_answer log exec machine =
    if is_some (machine_of log machine)
    then (if is_some ((world_of log).frames exec) then Err ExecTaken else (if is_full_for_step log then Err Full else Ok (start_name exec.exec)))
    else Err NoMachine

-- ---- hold

-- the earliest step, of what is left of a hold, on which a step of this fact would depend directly
abbrev pub needed_left : Log → Fact → Option Fact
needed_left log f = find (λ x. depends_directly x f) (map (λ t. t.fact) (left_of log))

-- what is answered where a step is held, and where none is
abbrev pub unless_needed : {T : Type 0} → Option Fact → Result T Refusal → Result T Refusal
unless_needed None answer = answer
unless_needed (Some x) answer = Err (Held x.name)

abbrev pub unless_held : {T : Type 0} → Option StepName → Result T Refusal → Result T Refusal
unless_held None answer = answer
unless_held (Some name) answer = Err (Held name)

-- ---- step

abbrev pub effect_answer : Log → Effect → Result Moved Refusal
effect_answer log d = unless_needed (needed_left log d.fact) (if is_full_for_step log then Err Full else Ok (record { name = d.fact.name; kind = d.fact.kind }))

abbrev pub moved_answer : Log → Readiness → Option Effect → Result Moved Refusal
moved_answer log readiness None = Err (NotReady readiness)
moved_answer log readiness (Some d) = effect_answer log d

abbrev pub thread_answer : Log → Thread → Option Frame → Result Moved Refusal
thread_answer log t None = Err NoThread
thread_answer log t (Some f) =
    moved_answer log (readiness_at (paths_of (world_of log).frames t.exec) t.path) (move_effect (setting_of log) (world_of log) t)

unfoldable pub step_answer : Log → Thread → Result Moved Refusal
step_answer log t = thread_answer log t ((world_of log).frames t)

-- ---- undo

-- the fact of the step of this name, and the facts after it
abbrev pub from_step : StepName → List Fact → Option (Fact × List Fact)
from_step name [] = None
from_step name (f ∷ facts) = if is_same_step name f.name then Some (f, facts) else from_step name facts

abbrev pub free_answer : StepName → Option Fact → Result StepName Refusal
free_answer name (Some dependent) = Err (HasDependents dependent.name)
free_answer name None = Ok name

-- some step that can't be taken back any more has this name
unfoldable pub is_settled : Log → StepName → Bool
is_settled log name = list_any (λ s. is_same_step name (name_of s)) (settled log)

-- why a step that doesn't remain can't be taken back: it was settled, or there was none
abbrev pub absent : Log → StepName → Refusal
absent log name = if is_settled log name then Settled else NoStep

-- it is undone where no later step depends directly on it, and else refused for the first that does
abbrev pub found_answer : Refusal → StepName → Option (Fact × List Fact) → Result StepName Refusal
found_answer gone name None = Err gone
found_answer gone name (Some p) = free_answer name (find (depends_directly p.0) p.1)

unfoldable pub undo_answer : Log → StepName → Result StepName Refusal
undo_answer log name = found_answer (absent log name) name (from_step name (log_facts log))

-- where a step is undone, what comes after that
abbrev pub once_undone : Result StepName Refusal → Result Log Refusal → Result Log Refusal
once_undone (Ok name) rest = rest
once_undone (Err e) rest = Err e

-- the steps undone one by one in this order, or the refusal of the first that can't be undone at its turn
abbrev pub order_answer : Log → List StepName → Result Log Refusal
order_answer log [] = Ok log
order_answer log (name ∷ names) = once_undone (undo_answer log name) (order_answer (appended log (Undo name)) names)

-- ---- rollback

abbrev pub names_of_facts : List TakenStep → List StepName
names_of_facts ts = map (λ t. t.fact.name) ts

-- whether some step has this name
abbrev pub remains : Log → StepName → Bool
remains log name = is_some (from_step name (log_facts log))

-- a remaining step and its consequences, the latest first
unfoldable pub plan_answer : Log → StepName → Result (List StepName) Refusal
plan_answer log name = if remains log name then Ok (names_of_facts (reverse (consequences_of log name))) else Err (absent log name)

-- ---- settle

-- what remains is settled where nothing is held and there is room for the entry
unfoldable pub settle_answer : Log → Result (Unit {0}) Refusal
settle_answer log = unless_held (step_on_hold log) (if is_full_for_define log then Err Full else Ok tt)

-- a remaining step and its consequences are held where no others are and there is room for the entry: so many steps
unfoldable pub hold_answer : Log → StepName → Result ℕ Refusal
hold_answer log name =
    if remains log name
    then unless_held (step_on_hold log) (if is_full_for_define log then Err Full else Ok (length (consequences_of log name)))
    else Err (absent log name)

-- ---- rerun

-- the remaining step of a name, with what it carries
abbrev pub step_named : StepName → List Step → Option Step
step_named name ss = find (λ s. is_same_step name (name_of s)) ss

abbrev pub steps_named : List Step → List StepName → Option (List Step)
steps_named ss [] = Some []
steps_named ss (name ∷ names) = option_and_then (λ s. option_map (λ more. s ∷ more) (steps_named ss names)) (step_named name ss)

-- the definitions of a log
abbrev pub defines : List Entry → List Entry
defines [] = []
defines (Define name machine ∷ entries) = Define name machine ∷ defines entries
defines (Start exec machine input ∷ entries) = defines entries
defines (Stepped name kind ∷ entries) = defines entries
defines (Undo name ∷ entries) = defines entries
defines (Rollback name undone ∷ entries) = defines entries
defines (Settle ∷ entries) = defines entries
defines (Hold name count ∷ entries) = defines entries

abbrev pub is_settlement : Entry → Bool
is_settlement Settle = true
is_settlement _ = false

-- the entries of a log up to its last settlement, and of those after it the definitions
abbrev pub outline : List Entry → List Entry
outline [] = []
outline (e ∷ entries) = if list_any is_settlement (e ∷ entries) then e ∷ outline entries else defines (e ∷ entries)

-- the entry that takes a step
abbrev pub entry_for : TakenStep → Step → Entry
entry_for t (started exec machine input) = Start (record { exec = exec; path = [] }) machine input
entry_for t (moved name) = Stepped name t.fact.kind

abbrev pub entry_of : TakenStep → Entry
entry_of t = entry_for t t.step

-- what stands up to the last settlement, the definitions since, and then these steps
abbrev pub replayed : Log → List TakenStep → Log
replayed log ts = record { begin = log.begin; entries = outline log.entries ++ map entry_of ts }

abbrev pub or_no_step : Option Log → Result Log Refusal
or_no_step (Some log) = Ok log
or_no_step None = Err NoStep

-- the remaining steps of these names, taken in this order from their base: none, where one doesn't remain or can't be taken then
unfoldable pub rerun_answer : Log → List StepName → Result Log Refusal
rerun_answer log names =
    or_no_step (option_map (λ p. replayed log p.1) (option_and_then (run (steps (setting_of log)) (base_of log)) (steps_named (remaining log) names)))

-- ---- what can move

-- the thread has a move
abbrev pub is_enabled : Log → Thread → Bool
is_enabled log t = is_some (move_effect (setting_of log) (world_of log) t)

-- ---- out of memory while something is held

-- Only what a move would do tells whether it depends on what is left: this, and the name that a refusal tells, take memory.
abbrev pub StepLacks : Log → Thread → Type 0
StepLacks log t = IsSome (step_on_hold log) × (is_enabled log t ≡ true)

abbrev pub SettleLacks : Log → Type 0
SettleLacks log = IsSome (step_on_hold log)

abbrev pub HoldLacks : Log → StepName → Type 0
HoldLacks log name = IsSome (step_on_hold log) × (remains log name ≡ true)
