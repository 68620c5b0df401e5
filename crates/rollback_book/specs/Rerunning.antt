-- Steps of a book that are taken again in another.
use Rattle.std.specs.Prelude.{◌≡◌, ◌⊎◌, ℕ, ◌-◌, ◌==◌, Bool, false, List, [], ◌∷◌, Option, None, Some, Result, Ok, Err, is_some, if◌then◌else◌}
use Rattle.json_tree.specs.declared.tree.Json.{Json}
use Rattle.step_history.specs.Frame.{Frame}
use Rattle.saved_steps.specs.Steps.{Step, started, moved, start_name}
use Rattle.saved_steps.specs.World.{is_same_thread}
use Rattle.saved_steps.specs.declared.fact.Kind.{Kind}
use Rattle.step_names.specs.Thread.{Thread, execution}
use Rattle.step_names.specs.declared.step.StepName.{StepName}
use Rattle.book_log.specs.Answers.{start_answer, step_answer, steps_named}
use Rattle.book_log.specs.Legal.{IsAccepted}
use Rattle.book_log.specs.Log.{Log, appended, remaining}
use Rattle.book_log.specs.declared.refusal.Refusal.{Refusal}
use Rattle.book_log.specs.declared.refusal.Refusal.TheVariants.{NoStep, Memory}
use Rattle.book_log.specs.declared.entry.Entry.{Entry}
use Rattle.book_log.specs.declared.entry.Entry.TheVariants.{Define, Start, Step as Stepped}

-- what a start has: its machine's name and its input
abbrev pub Origin : Type 0
Origin = List ℕ × Json

-- what this entry starts the execution with
abbrev pub start_in : Thread → Entry → Option Origin
start_in t (Start exec machine input) = if is_same_thread t exec then Some (machine, input) else None
start_in t _ = None

abbrev pub or_earlier : Option Origin → Option Origin → Option Origin
or_earlier (Some origin) earlier = Some origin
or_earlier None earlier = earlier

-- what the last start of the execution has
abbrev pub last_start : Thread → List Entry → Option Origin
last_start t [] = None
last_start t (e ∷ entries) = or_earlier (last_start t entries) (start_in t e)

-- a step of each of these names remains
abbrev pub all_remain : Log → List StepName → Bool
all_remain log names = is_some (steps_named (remaining log) names)

-- the step is accepted
abbrev pub CanRetake : Log → Step → Type 0
CanRetake log (started exec machine input) = start_answer log (execution exec) machine ≡ Ok (start_name exec)
CanRetake log (moved name) = (kind : Kind) × (step_answer log name.thread ≡ Ok (record { name = name; kind = kind }))

-- and the log has it more
abbrev pub IsRetaken : Log → Step → Log → Type 0
IsRetaken log (started exec machine input) later = (start_answer log (execution exec) machine ≡ Ok (start_name exec)) × (later ≡ appended log (Start (execution exec) machine input))
IsRetaken log (moved name) later = (kind : Kind) × (step_answer log name.thread ≡ Ok (record { name = name; kind = kind })) × (later ≡ appended log (Stepped name kind))

-- it is taken; or there is none, or it can't be taken, or memory was refused
abbrev pub Retakes : {T : Type 0} → Log → Option Step → Result T Refusal → Log → Type 0
Retakes log None (Ok x) later = ⊥
Retakes log None (Err e) later = (e ≡ Memory) ⊎ (e ≡ NoStep)
Retakes log (Some step) (Ok x) later = IsRetaken log step later
Retakes log (Some step) (Err e) later = (e ≡ Memory) ⊎ ((e ≡ NoStep) × (CanRetake log step → ⊥))

-- the next move after this frame has this number
abbrev pub is_numbered : Option Frame → ℕ → Bool
is_numbered None number = false
is_numbered (Some f) number = f.count == number - 1

-- where the entry is a definition, it is accepted
abbrev pub MayDefine : Log → Entry → Type 0
MayDefine log (Define name machine) = IsAccepted log (Define name machine)
MayDefine log _ = Unit {0}
