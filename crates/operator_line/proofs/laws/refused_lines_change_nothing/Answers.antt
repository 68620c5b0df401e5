use Rattle.operator_line.proofs.Refused.{refused_changes_nothing}
use Rattle.operator_line.proofs.laws.refused_lines_change_nothing.Goals as goal

pub returns : goal.returns
returns c = refused_changes_nothing
