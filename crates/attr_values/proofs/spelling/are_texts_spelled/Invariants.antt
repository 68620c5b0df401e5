use Rattle.std.proofs.Common.{◌≡◌, map}
use Rattle.std.specs.Slice.Iter.{iter_rest}
use Rattle.json_tree.specs.Data as json
use Rattle.json_tree.specs.View.{list_of as json_list_of}
use Rattle.attr_values.proofs.spelling.are_texts_spelled.Given as goal

abbrev pub invariant-loop-text : goal.invariant-loop-text
invariant-loop-text l = json_list_of (iter_rest l.rest) ≡ map json.text l.text-iterator → l.json ≡ map json.text l.set
