use Rattle.linked_classes.proofs.Counts.{along_whole}
use Rattle.linked_classes.proofs.Keys.{along_keys}
use Rattle.linked_classes.proofs.sparse.SparseVec.extend_to.Goals as goal

pub returns-clause-cells : goal.returns-clause-cells
returns-clause-cells g c = rw (← c.self.view_is) (along_keys c.self.inside.values.items c.self.inside.keys.items c.fill.new.keys.items c.self.invariant.keyed.few c.fill.ensures.keys)

pub invariant_of-self : goal.invariant_of-self
invariant_of-self g c = along_whole c.self.inside.values.items c.self.inside.keys.items c.fill.new.keys.items c.self.invariant c.fill.ensures.keys
