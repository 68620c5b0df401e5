-- what was taken so far, with room for what comes
use Rattle.std.proofs.Common.{◌≡◌, ◌+◌, ◌-◌, ◌^◌, Some, string_bytes, string_len}
use Rattle.std.specs.BTreeSet.{btree_set_len}
use Rattle.std.specs.Prelude.{IsSome}
use Rattle.book_log.specs.Log.{Log}
use Rattle.sqlite.specs.Held.{state}
use Rattle.operator_line.specs.Driving.{LooksAtAll}
use Rattle.operator_line.specs.Sessions.{WasClean, log_in}
use Rattle.operator_line.proofs.Taken.{HasTaken}
use Rattle.reply_lines.specs.Replying.{has_room_for_lines}
use Rattle.operator_line.proofs.driving.take_steps.Given as goal

abbrev pub invariant-loop-left : goal.invariant-loop-left
invariant-loop-left g l =
    ((before : Log) → log_in g.B.Events.log l.initial.book ≡ Some before → (now : Log) × (log_in g.B.Events.log l.book ≡ Some now) × HasTaken l.count l.left before now l.passed l.lines) × IsSome l.book.book
    × (string_bytes l.reply.text ≡ string_bytes l.initial.reply.text) × has_room_for_lines l.reply.text (string_len l.lines.text)
    × WasClean (λ held. state g.S.Store held) l.initial.book.journal l.book.journal × LooksAtAll (log_in g.B.Events.log l.book) l.passed l.cursor

-- each turn takes a step or adds a thread to those that are passed by, and no set is so large
abbrev pub decreases-loop-left : goal.decreases-loop-left
decreases-loop-left g l = l.left + (2 ^ 63 - btree_set_len l.passed)
