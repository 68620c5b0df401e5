use Rattle.std.proofs.Common.{Some, ap, ◌∙◌}
use Rattle.command_lines.specs.Grammar.{work, command_view}
use Rattle.command_lines.proofs.Spelling.{line_is_spelled}
use Rattle.operator_line.proofs.session.Session.answer_text.Goals as goal

-- a line of a round has from 1 to 8 workers
pub work-requires-clause-few : goal.work-requires-clause-few
work-requires-clause-few g c =
    λ κs inside. (line_is_spelled c.args.line.now (work c.in-Ok-Work.workers c.in-Ok-Work.moves) (c.in-Ok-Work.ensures.ok ∙ ap (λ k. Some (command_view k)) c.in-Ok-Work.field-0-is)).2.0
