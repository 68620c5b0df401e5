use Rattle.step_names.proofs.Parts.{cut_parts}
use Rattle.step_names.proofs.grammar.cut.Goals as goal

pub returns-clause-parts : goal.returns-clause-parts
returns-clause-parts c = cut_parts c.args.separator c.args.text.now c.split_once.result c.split_once.ensures.cases c.requires
