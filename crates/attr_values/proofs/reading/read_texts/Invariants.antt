use Rattle.std.proofs.Common.{◌≡◌, [], drop}
use Rattle.json_tree.specs.Data.{items_of}
use Rattle.json_tree.specs.View.{list_of}
use Rattle.attr_values.specs.Reading as spec
use Rattle.attr_values.proofs.reading.read_texts.Given as goal

abbrev pub invariant-loop-json : goal.invariant-loop-json
invariant-loop-json l = spec.read_texts [] (items_of l.list) ≡ spec.read_texts l.inner.keys (items_of (list_of (drop l.json-index l.json-items)))
