use Rattle.command_lines.proofs.Cuts.{cut_result}
use Rattle.command_lines.proofs.words.cut.Goals as goal

pub returns : goal.returns
returns c = cut_result c.args.separator c.args.text.now c.split_once.result c.split_once.ensures.cases c.requires
