use Rattle.saved_steps.proofs.Trees.{emptied}
use Rattle.std.specs.String.{string_bytes}
use Rattle.saved_steps.proofs.places.make_place.Goals as goal

pub returns-clause-trees : goal.returns-clause-trees
returns-clause-trees c = emptied c.args.trees.now c.insert.new.self (string_bytes c.in_ok-name.name) c.args.exec.now c.in_ok-name.ensures.ok c.requires c.in_ok-insert.ensures.updates
