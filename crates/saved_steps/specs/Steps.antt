-- Steps by their names, with what a start carries; and the threads that a step makes or takes out.
use Rattle.std.specs.Prelude.{ℕ, ◌-◌, List, Bool, true, false, ◌&&◌, Option, Some, None}
use Rattle.json_tree.specs.declared.tree.Json.{Json}
use Rattle.attr_values.specs.declared.key.Key.{Key}
use Rattle.item_store.specs.Table.{is_same_key}
use Rattle.item_store.specs.declared.access.AccessMode.{AccessMode}
use Rattle.item_store.specs.declared.access.AccessMode.TheVariants.{Read, Write}
use Rattle.step_names.specs.Thread.{Thread, execution}
use Rattle.step_names.specs.Under.{is_under}
use Rattle.step_names.specs.declared.step.StepName.{StepName}
use Rattle.saved_steps.specs.declared.fact.Access.{Access}
use Rattle.saved_steps.specs.declared.fact.Fact.{Fact}
use Rattle.saved_steps.specs.declared.fact.Kind.{Kind}
use Rattle.saved_steps.specs.declared.fact.Kind.TheVariants.{Start, Plain, Call, Fork, Join, Terminate}

-- A start has its execution, its machine's name and its input; any other step only its name.
pub data Step : Type 0 where
  started : List ℕ → List ℕ → Json → Step
  moved : StepName → Step

-- the start of an execution is its step 0
abbrev pub start_name : List ℕ → StepName
start_name exec = record { thread = execution exec; no = 0 }

abbrev pub name_of : Step → StepName
name_of (started exec machine input) = start_name exec
name_of (moved name) = name

abbrev pub is_fork : Kind → Bool
is_fork Fork = true
is_fork Start = false
is_fork Plain = false
is_fork Call = false
is_fork Join = false
is_fork Terminate = false

-- a join and a terminate close the fork that is their thread's step before them
abbrev pub is_close : Kind → Bool
is_close Join = true
is_close Terminate = true
is_close Start = false
is_close Plain = false
is_close Call = false
is_close Fork = false

-- the thread lies under the fork that this step is
abbrev pub makes : Fact → Thread → Bool
makes s t = is_fork s.kind && is_under t s.name.thread s.name.no

-- the thread lies under the fork that this step closes
abbrev pub closes : Fact → Thread → Bool
closes s t = is_close s.kind && is_under t s.name.thread (s.name.no - 1)

-- ---- items

abbrev pub is_write : AccessMode → Bool
is_write Write = true
is_write Read = false

abbrev pub is_of_key : Option Access → Key → Bool
is_of_key None key = false
is_of_key (Some a) key = is_same_key a.key key

-- the step has an access of this key
abbrev pub touches_key : Fact → Key → Bool
touches_key s key = is_of_key s.access key

abbrev pub is_write_of : Option Access → Key → Bool
is_write_of None key = false
is_write_of (Some a) key = is_write a.mode && is_same_key a.key key

-- the step wrote the item of this key
abbrev pub writes_key : Fact → Key → Bool
writes_key s key = is_write_of s.access key
