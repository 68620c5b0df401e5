use Rattle.ref_paths.proofs.Sources.{cut_mark_is}
use Rattle.ref_paths.proofs.template_reading.cut_mark.Goals as goal

pub returns : goal.returns
returns c = cut_mark_is c.args.name.now c.strip_suffix.result c.strip_suffix.ensures.cases
