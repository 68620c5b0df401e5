use Rattle.std.proofs.Common.{[]}
use Rattle.operator_line.proofs.working.tell_no_steps.Goals as goal

pub returns : goal.returns
returns c = rw c.requires at c.accept_lines.ensures.ok [] c.new.ensures.lines
