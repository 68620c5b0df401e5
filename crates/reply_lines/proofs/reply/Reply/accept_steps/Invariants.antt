-- a line for each step so far
use Rattle.std.proofs.Common.{◌≡◌, ◌++◌, map, flat_map, take, string_bytes}
use Rattle.step_names.specs.Written.{step_text}
use Rattle.book_log.specs.StepRecord.{StepRecord}
use Rattle.reply_lines.specs.Replies.{with_feed}
use Rattle.reply_lines.proofs.reply.Reply.accept_steps.Given as goal

abbrev pub invariant-loop-place : goal.invariant-loop-place
invariant-loop-place l = string_bytes l.self.text ≡ string_bytes l.initial.self.text ++ flat_map with_feed (map (λ (r : StepRecord). step_text r.fact.name) (take l.place l.records.items))
