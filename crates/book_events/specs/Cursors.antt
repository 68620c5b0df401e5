-- A place among all threads, in the order of their names, from which on one is looked for.
use Rattle.std.specs.Prelude.{◌≡◌, ◌⊎◌, ℕ, List, [], Bool, false}
use Rattle.std.specs.Str.{bytes_eq}
use Rattle.std.specs.String.{string_bytes}
use Rattle.std.specs.declared.cmp.Ordering.TheVariants.{Less}
use Rattle.step_names.specs.Order.{thread_cmp}
use Rattle.step_names.specs.Thread.{Thread, execution}
use Rattle.saved_steps.specs.First.{NoneBeforeThread}
use Rattle.book_log.specs.Log.{Log, world_of}
use Rattle.book_events.specs.declared.cursor.Cursor.{Cursor}

-- the name that would be there
abbrev pub cursor_place : Cursor → Thread
cursor_place c = record { exec = string_bytes c.exec; path = c.path.items }

-- before all threads
abbrev pub first_of_all : Thread
first_of_all = execution []

-- before the place there is only what was before it, and no thread of this execution
abbrev pub GoesBack : List ℕ → Thread → Thread → Type 0
GoesBack exec was now = (t : Thread) → thread_cmp t now ≡ Less → (thread_cmp t was ≡ Less) × (bytes_eq exec t.exec ≡ false)

-- at a thread; or before the first one of its execution, or before all, as far as there was memory
abbrev pub IsUpTo : Thread → Thread → Type 0
IsUpTo t now = (now ≡ t) ⊎ ((now ≡ execution t.exec) ⊎ (now ≡ first_of_all))

-- a search that begins there leaves no thread out that is free
abbrev pub LeavesNoneOut : Log → (Thread → Bool) → Thread → Type 0
LeavesNoneOut log passed from = NoneBeforeThread (world_of log).frames passed from.exec from.path
