-- Which later steps are in a class that a plan opens for one of its steps, and so may be looked at.
use Rattle.std.specs.Prelude.{ℕ, ◌+◌, ◌==◌, ◌||◌, Bool, false, List, Option, None, Some, drop, slice_get, if◌then◌else◌}
use Rattle.std.specs.List.{count_by, list_any}
use Rattle.saved_steps.specs.Steps.{is_fork, is_write}
use Rattle.saved_steps.specs.declared.fact.Access.{Access}
use Rattle.saved_steps.specs.declared.fact.Fact.{Fact}
use Rattle.saved_steps.specs.declared.record.StepRecord.{StepRecord}
use Rattle.depends.specs.Dependence.{is_start}
use Rattle.step_index.specs.Buckets.{by_thread, by_exec, by_gate, by_key, by_write, exec_bucket, thread_bucket, key_bucket}

abbrev pub is_class : ℕ → Option ℕ → Bool
is_class c None = false
is_class c (Some d) = c == d

-- of its execution, if the earlier step makes threads; else of its thread, or a gate of its execution
abbrev pub shares_by_name : Fact → Fact → Bool
shares_by_name f g =
    if is_start f.kind || is_fork f.kind
    then is_class (exec_bucket f.name.thread.exec) (by_exec g)
    else (is_class (thread_bucket f.name.thread) (by_thread g) || is_class (exec_bucket f.name.thread.exec) (by_gate g))

-- of the accesses of its key, if the earlier step wrote; else of the writes
abbrev pub shares_by_access : Option Access → Fact → Bool
shares_by_access None g = false
shares_by_access (Some a) g = is_class (key_bucket a.key) (if is_write a.mode then by_key g else by_write g)

-- a later step is in a class that is opened for an earlier one
abbrev pub shares : Fact → Fact → Bool
shares f g = shares_by_name f g || shares_by_access f.access g

abbrev pub shares_at : Option StepRecord → StepRecord → Bool
shares_at None g = false
shares_at (Some f) g = shares f.fact g.fact

-- a step is in a class that is opened for the step at one of these places
abbrev pub is_near : List StepRecord → List ℕ → StepRecord → Bool
is_near rs places g = list_any (λ p. shares_at (slice_get rs p) g) places

-- ---- the same of facts alone

abbrev pub fact_shares_at : Option Fact → Fact → Bool
fact_shares_at None g = false
fact_shares_at (Some f) g = shares f g

abbrev pub is_near_fact : List Fact → List ℕ → Fact → Bool
is_near_fact fs places g = list_any (λ p. fact_shares_at (slice_get fs p) g) places

-- how many behind a place are in a class that is opened for the step at one of these places
abbrev pub near_behind : List Fact → List ℕ → ℕ → ℕ
near_behind fs places at = count_by (is_near_fact fs places) (drop (at + 1) fs)
