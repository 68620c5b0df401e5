use Rattle.ref_paths.proofs.Scans.{quote_parts}
use Rattle.ref_paths.proofs.reading.cut_at_quote.Goals as goal

pub returns : goal.returns
returns c = quote_parts c.args.text.now c.split_once.result c.split_once.ensures.cases
