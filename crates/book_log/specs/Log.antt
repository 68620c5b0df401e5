-- A book as contracts see it: what it began with, and the commands that it accepted. What remains of them, and the world that
-- this gives, are functions of these two: a list is filtered and run from its base, and nothing is undone.
use Rattle.std.specs.Prelude.{ℕ, List, [], ◌∷◌, ◌++◌, not, fold, filter, map, Option, None, Some, unwrap_or, if◌then◌else◌}
use Rattle.std.specs.List.{list_any}
use Rattle.asl_machine.specs.Fields.{is_text}
use Rattle.asl_machine.specs.Definition.{Definition}
use Rattle.step_names.specs.declared.step.StepName.{StepName}
use Rattle.trace_theory.specs.Traces.{run, consequences, without, names_of}
use Rattle.depends.specs.Steps.{Step, started, moved, name_of}
use Rattle.depends.specs.World.{Setting, World, is_same_step}
use Rattle.depends.specs.Fact.{Fact}
use Rattle.depends.specs.Instance.{TakenStep, steps}
use Rattle.book_log.specs.Beginning.{first_items}
use Rattle.book_log.specs.declared.begin.Begin.{Begin}
use Rattle.book_log.specs.declared.entry.Entry.{Entry}
use Rattle.book_log.specs.declared.entry.Entry.TheVariants.{Define, Start, Step as Stepped, Undo, Rollback, Settle, Hold}

pub record Log : Type 0 where
  pub begin : Begin
  pub entries : List Entry

-- the log with one more entry
abbrev pub appended : Log → Entry → Log
appended log entry = record { begin = log.begin; entries = log.entries ++ entry ∷ [] }

-- ---- what a log leaves

-- the machines that it defines, by their names; the steps that can't be taken back any more; those after them that were not
-- taken back since, these and those in the order in which they were taken; and of a hold that stands its step
pub record Remainder : Type 0 where
  pub machines : List ℕ → Option Definition
  pub settled : List Step
  pub steps : List Step
  pub held : Option StepName

abbrev pub setting_in : Begin → Remainder → Setting
setting_in begin r = record { machines = r.machines; table = begin.table; schema = begin.schema }

-- the start: the items of the beginning, and no execution
abbrev pub first_world : Begin → World
first_world begin = record { frames = λ t. None; items = first_items begin }

-- the world that steps give which are run forward from the start
unfoldable pub world_after : Setting → Begin → List Step → World
world_after s begin ss = (unwrap_or (run (steps s) (first_world begin) ss) (first_world begin, [])).0

-- the base of the remaining steps: the world that the settled ones give
unfoldable pub base_in : Begin → Remainder → World
base_in begin r = world_after (setting_in begin r) begin r.settled

-- the remaining steps alone, run forward from their base: the world that they give, and each with its fact and what it kept
unfoldable pub run_in : Begin → Remainder → Option (World × List TakenStep)
run_in begin r = run (steps (setting_in begin r)) (base_in begin r) r.steps

unfoldable pub world_in : Begin → Remainder → World
world_in begin r = (unwrap_or (run_in begin r) (base_in begin r, [])).0

unfoldable pub past_in : Begin → Remainder → List TakenStep
past_in begin r = (unwrap_or (run_in begin r) (base_in begin r, [])).1

-- a step and its consequences, in their order (Danos and Krivine, "Reversible Communicating Systems", 2004)
unfoldable pub consequences_in : Begin → Remainder → StepName → List TakenStep
consequences_in begin r name = consequences (steps (setting_in begin r)) (past_in begin r) (moved name)

-- the steps but the one of this name
abbrev pub steps_but : StepName → List Step → List Step
steps_but name = filter (λ s. not (is_same_step name (name_of s)))

-- the steps but a step and its consequences
unfoldable pub rolled_back : Begin → Remainder → StepName → List Step
rolled_back begin r name = names_of (steps (setting_in begin r)) (without (steps (setting_in begin r)) (consequences_in begin r name) (past_in begin r))

-- the step of a name, if there is one, and its consequences
abbrev pub left_by : Setting → List TakenStep → Option StepName → List TakenStep
left_by s ts None = []
left_by s ts (Some name) = consequences (steps s) ts (moved name)

-- what is left of a hold: its step, and the consequences that this has now
unfoldable pub left_in : Begin → Remainder → List TakenStep
left_in begin r = left_by (setting_in begin r) (past_in begin r) r.held

-- the machines, with this one under a name
abbrev pub with_machine : (List ℕ → Option Definition) → List ℕ → Definition → List ℕ → Option Definition
with_machine machines name machine n = if is_text name n then Some machine else machines n

-- ---- after one more entry

-- a hold lasts as long as its step remains
abbrev pub while_in : List Step → Option StepName → Option StepName
while_in ss None = None
while_in ss (Some name) = if list_any (λ s. is_same_step name (name_of s)) ss then Some name else None

-- the remainder without these steps: what is left, and what was held as long as it is left
abbrev pub left_with : Remainder → List Step → Remainder
left_with r ss = record r { steps = ss; held = while_in ss r.held }

abbrev pub after_entry : Begin → Remainder → Entry → Remainder
after_entry begin r (Define name machine) = record r { machines = with_machine r.machines name machine }
after_entry begin r (Start exec machine input) = record r { steps = r.steps ++ started exec.exec machine input ∷ [] }
after_entry begin r (Stepped name kind) = record r { steps = r.steps ++ moved name ∷ [] }
after_entry begin r (Undo name) = left_with r (steps_but name r.steps)
after_entry begin r (Rollback name undone) = left_with r (rolled_back begin r name)
after_entry begin r Settle = record r { settled = r.settled ++ r.steps; steps = []; held = None }
after_entry begin r (Hold name count) = record r { held = Some name }

abbrev pub nothing : Remainder
nothing = record { machines = λ name. None; settled = []; steps = []; held = None }

unfoldable pub remainder : Log → Remainder
remainder log = fold (after_entry log.begin) nothing log.entries

-- ---- of a log

-- the steps of a log that were not taken back since, in the order in which they were taken
abbrev pub remaining : Log → List Step
remaining log = (remainder log).steps

-- the steps of a log that can't be taken back any more, in the order in which they were taken
abbrev pub settled : Log → List Step
settled log = (remainder log).settled

-- the step of the hold that stands, if one does
abbrev pub step_on_hold : Log → Option StepName
step_on_hold log = (remainder log).held

-- what is left of it
abbrev pub left_of : Log → List TakenStep
left_of log = left_in log.begin (remainder log)

-- the machine that a log defines under a name
abbrev pub machine_of : Log → List ℕ → Option Definition
machine_of log = (remainder log).machines

abbrev pub setting_of : Log → Setting
setting_of log = setting_in log.begin (remainder log)

-- the base of the remaining steps: the world that the settled ones give, run forward from the start
abbrev pub base_of : Log → World
base_of log = base_in log.begin (remainder log)

abbrev pub run_of : Log → Option (World × List TakenStep)
run_of log = run_in log.begin (remainder log)

-- the world that the remaining steps alone, run forward from their base, give
abbrev pub world_of : Log → World
world_of log = world_in log.begin (remainder log)

-- the remaining steps with their facts and what they kept, in the same run
abbrev pub past_of : Log → List TakenStep
past_of log = past_in log.begin (remainder log)

abbrev pub log_facts : Log → List Fact
log_facts log = map (λ t. t.fact) (past_of log)

abbrev pub consequences_of : Log → StepName → List TakenStep
consequences_of log = consequences_in log.begin (remainder log)
