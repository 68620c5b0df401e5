-- In which class a step is, by the hash of a part of its fact. Of the hash only this is used, that it is a function.
use Rattle.std.specs.Prelude.{ℕ, ◌%◌, ◌++◌, ◌==◌, Bool, ◌||◌, not, List, [], ◌∷◌, Option, Some, None, option_map, take, if◌then◌else◌}
use Rattle.std.specs.Hash as fed
use Rattle.std.specs.Hash.FoldHasher as folding
use Rattle.std.specs.List.{fold}
use Rattle.attr_values.specs.Key.{key_input}
use Rattle.attr_values.specs.declared.key.Key.{Key}
use Rattle.step_names.specs.Thread.{Thread, execution}
use Rattle.step_names.specs.declared.step.StepName.{StepName}
use Rattle.depends.specs.Dependence.{is_start}
use Rattle.saved_steps.specs.Steps.{is_close, is_write}
use Rattle.saved_steps.specs.declared.fact.Access.{Access}
use Rattle.saved_steps.specs.declared.fact.Fact.{Fact}
use Rattle.step_index.specs.declared.buckets.Classing.{Classing}
use Rattle.step_index.specs.declared.buckets.Classing.TheVariants.{Names, Threads, Execs, Gates, Keys, Writes}

unfoldable pub exec_bucket : List ℕ → ℕ
exec_bucket exec = folding.finish (fold folding.write folding.initial (fed.str exec)) % 16381

unfoldable pub thread_bucket : Thread → ℕ
thread_bucket t = folding.finish (fold folding.write (fold folding.write folding.initial (fed.str t.exec)) (fed.slice (λ b. fed.u32 b.0 ++ fed.u32 b.1) t.path)) % 16381

unfoldable pub name_bucket : StepName → ℕ
name_bucket name =
    folding.finish (fold folding.write (fold folding.write (fold folding.write folding.initial (fed.str name.thread.exec)) (fed.slice (λ b. fed.u32 b.0 ++ fed.u32 b.1) name.thread.path)) (fed.u32 name.no)) % 16381

unfoldable pub key_bucket : Key → ℕ
key_bucket key = folding.finish (fold folding.write folding.initial (key_input key)) % 16381

-- ---- of a step

abbrev pub by_name : Fact → Option ℕ
by_name f = Some (name_bucket f.name)

abbrev pub by_thread : Fact → Option ℕ
by_thread f = Some (thread_bucket f.name.thread)

-- where a step is at home: in its thread, and a start in the thread of its execution
abbrev pub home : Fact → Thread
home f = if is_start f.kind then execution f.name.thread.exec else f.name.thread

abbrev pub by_home : Fact → Option ℕ
by_home f = Some (thread_bucket (home f))

-- the thread whose name begins as that of one, with so many branches
abbrev pub thread_at_depth : Thread → ℕ → Thread
thread_at_depth t depth = record { exec = t.exec; path = take depth t.path }

abbrev pub by_exec : Fact → Option ℕ
by_exec f = Some (exec_bucket f.name.thread.exec)

-- it closes a fork, or waited for branches under a bound
abbrev pub is_gate : Fact → Bool
is_gate f = is_close f.kind || not (f.bound == 0)

abbrev pub by_gate : Fact → Option ℕ
by_gate f = if is_gate f then Some (exec_bucket f.name.thread.exec) else None

abbrev pub by_key : Fact → Option ℕ
by_key f = option_map (λ (a : Access). key_bucket a.key) f.access

-- of an access that wrote
abbrev pub written_bucket : Option Access → Option ℕ
written_bucket None = None
written_bucket (Some a) = if is_write a.mode then Some (key_bucket a.key) else None

abbrev pub by_write : Fact → Option ℕ
by_write f = written_bucket f.access

-- ---- the sets of classes, each of which has a number

abbrev pub by_set : Classing → Fact → Option ℕ
by_set Names = by_name
by_set Threads = by_thread
by_set Execs = by_exec
by_set Gates = by_gate
by_set Keys = by_key
by_set Writes = by_write

abbrev pub set_number : Classing → ℕ
set_number Names = 0
set_number Threads = 1
set_number Execs = 2
set_number Gates = 3
set_number Keys = 4
set_number Writes = 5

-- the class of a step in each set, in their order
abbrev pub all_classes : Fact → List (Option ℕ)
all_classes f = by_name f ∷ by_thread f ∷ by_exec f ∷ by_gate f ∷ by_key f ∷ by_write f ∷ []
