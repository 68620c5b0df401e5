-- a line for each name so far
use Rattle.std.proofs.Common.{◌≡◌, ◌++◌, map, flat_map, take, string_bytes}
use Rattle.step_names.specs.Written.{step_text}
use Rattle.reply_lines.specs.Replies.{with_feed}
use Rattle.reply_lines.proofs.reply.Reply.accept_names.Given as goal

abbrev pub invariant-loop-name : goal.invariant-loop-name
invariant-loop-name l = string_bytes l.self.text ≡ string_bytes l.initial.self.text ++ flat_map with_feed (map step_text (take l.name-index l.names))
