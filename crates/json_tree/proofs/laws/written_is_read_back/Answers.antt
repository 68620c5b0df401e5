use Rattle.json_tree.proofs.RoundTrip.{reads_back}
use Rattle.json_tree.proofs.laws.written_is_read_back.Goals as goal

pub returns : goal.returns
returns c = reads_back
