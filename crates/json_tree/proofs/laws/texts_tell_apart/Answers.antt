use Rattle.json_tree.proofs.RoundTrip.{tell_apart}
use Rattle.json_tree.proofs.laws.texts_tell_apart.Goals as goal

pub returns : goal.returns
returns c = tell_apart
