use Rattle.std.proofs.Common.{string_bytes}
use Rattle.reply_lines.proofs.Steps.{one_line}
use Rattle.reply_lines.proofs.reply.Reply.accept_steps.Goals as goal

pub loop-place-preserved : goal.loop-place-preserved
loop-place-preserved c =
    one_line (string_bytes c.count.new.self.text) (string_bytes c.loop-place.self.text) (string_bytes c.step_line.new.self.text) c.args.records.now.items c.loop-place.place c.get.result.now c.get.ensures c.loop-place.invariant c.in_ok-step_line.ensures.ok
