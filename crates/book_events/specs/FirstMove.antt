-- The first thread that can move.
use Rattle.std.specs.Prelude.{◌≡◌, ◌&&◌, Bool, not, true, false, Option, None, Some}
use Rattle.std.specs.declared.cmp.Ordering.TheVariants.{Less}
use Rattle.step_names.specs.Order.{thread_cmp}
use Rattle.step_names.specs.Thread.{Thread, IsThread}
use Rattle.book_log.specs.Answers.{is_enabled}
use Rattle.book_log.specs.Log.{Log}

-- the thread has a move and is not passed by
abbrev pub moves_freely : Log → (Thread → Bool) → Thread → Bool
moves_freely log passed t = is_enabled log t && not (passed t)

-- Nothing, where each thread that has a move is passed by; or the name of one that isn't, with none before it.
abbrev pub IsFirstToMove : Log → (Thread → Bool) → Option Thread → Type 0
IsFirstToMove log passed None = (t : Thread) → IsThread t → moves_freely log passed t ≡ false
IsFirstToMove log passed (Some t) =
    IsThread t × (moves_freely log passed t ≡ true) × ((u : Thread) → IsThread u → thread_cmp u t ≡ Less → moves_freely log passed u ≡ false)
