use Rattle.command_lines.proofs.ReadBack.{line_is_read}
use Rattle.command_lines.proofs.Spelling.{line_says_one, line_is_spelled}
use Rattle.command_lines.proofs.laws.lines_are_spelled.Goals as goal

pub returns : goal.returns
returns c = record { one = line_says_one; spelled = line_is_spelled; read = line_is_read }
