-- The threads that a claim leaves out: those that callers have claimed, and those that are passed by, since a hold kept their moves
-- back.
use Rattle.std.specs.Prelude.{◌≡◌, ℕ, Bool, true, false, not, ◌&&◌, List, [], ◌∷◌, ◌++◌, Option, None, Some, Err, filter, if◌then◌else◌}
use Rattle.std.specs.BTreeMap.{is_at}
use Rattle.std.specs.BTreeSet.{contains, insert_key}
use Rattle.std.specs.Set.{remove_key}
use Rattle.std.specs.Str.{bytes_eq}
use Rattle.step_names.specs.Order.{thread_cmp}
use Rattle.step_names.specs.Thread.{Thread}
use Rattle.step_names.specs.declared.step.StepName.{StepName}
use Rattle.book_log.specs.Answers.{step_answer}
use Rattle.book_log.specs.Legal.{IsLegal}
use Rattle.book_log.specs.Log.{Log}
use Rattle.book_log.specs.declared.entry.Entry.{Entry}
use Rattle.book_log.specs.declared.entry.Entry.TheVariants.{Start, Step as Stepped}
use Rattle.book_log.specs.declared.refusal.Refusal.TheVariants.{Held}

-- the threads that are claimed; and these together with those that are passed by; each in their order
pub record Away : Type 0 where
  pub claimed : List Thread
  pub outside : List Thread

abbrev pub is_thread_among : List Thread → Thread → Bool
is_thread_among threads t = contains thread_cmp (record { keys = threads }) t

abbrev pub is_passed : Away → Thread → Bool
is_passed a t = is_thread_among a.outside t && not (is_thread_among a.claimed t)

-- ---- changes

abbrev pub with_thread_name : List Thread → Thread → List Thread
with_thread_name threads t = insert_key thread_cmp threads t

abbrev pub without_thread : List Thread → Thread → List Thread
without_thread threads t = remove_key (is_at (thread_cmp t)) threads

-- a thread more is claimed, if there is one
abbrev pub claimed_with : Away → Option Thread → Away
claimed_with a None = a
claimed_with a (Some t) = record { claimed = with_thread_name a.claimed t; outside = with_thread_name a.outside t }

-- the claim of a thread has ended, if there was one
abbrev pub claim_ended : Away → Thread → Away
claim_ended a t = if is_thread_among a.claimed t then record { claimed = without_thread a.claimed t; outside = without_thread a.outside t } else a

-- a thread that was claimed is passed by
abbrev pub passed_by : Away → Thread → Away
passed_by a t = record { claimed = without_thread a.claimed t; outside = a.outside }

-- none is passed by
abbrev pub claimed_alone : Away → Away
claimed_alone a = record { claimed = a.claimed; outside = filter (is_thread_among a.claimed) a.outside }

-- ---- who is passed by

-- each that is claimed is outside
abbrev pub AreOutside : Away → Type 0
AreOutside a = (t : Thread) → is_thread_among a.claimed t ≡ true → is_thread_among a.outside t ≡ true

-- no other is passed by
abbrev pub PassesNoOther : Away → Away → Type 0
PassesNoOther before after = (t : Thread) → is_passed after t ≡ true → is_passed before t ≡ true

-- each that was outside still is
abbrev pub LeavesOutMore : Away → Away → Type 0
LeavesOutMore before after = (t : Thread) → is_thread_among before.outside t ≡ true → is_thread_among after.outside t ≡ true

-- of other executions the same are outside
abbrev pub LeavesOutOthers : List ℕ → Away → Away → Type 0
LeavesOutOthers exec before after = (t : Thread) → bytes_eq exec t.exec ≡ false → is_thread_among after.outside t ≡ is_thread_among before.outside t

-- starts and steps alone
abbrev pub IsMove : Entry → Type 0
IsMove (Start exec machine input) = Unit {0}
IsMove (Stepped name kind) = Unit {0}
IsMove _ = ⊥

abbrev pub AreMoves : List Entry → Type 0
AreMoves [] = Unit {0}
AreMoves (e ∷ es) = IsMove e × AreMoves es

-- at some legal beginning of the log the thread's move was refused for a hold, and since then only starts and steps came
pub record WasRefused (log : Log) (t : Thread) : Type 0 where
  pub before : Log
  pub since : List Entry
  pub parts : log ≡ record { begin = before.begin; entries = before.entries ++ since }
  pub legal : IsLegal before
  pub moves : AreMoves since
  pub step : StepName
  pub refused : step_answer before t ≡ Err (Held step)

-- so it was of each thread that is passed by
abbrev pub WereRefused : Log → Away → Type 0
WereRefused log a = (t : Thread) → is_passed a t ≡ true → WasRefused log t

pub record AreAway (log : Log) (a : Away) : Type 0 where
  pub claimed : AreOutside a
  pub passed : WereRefused log a
