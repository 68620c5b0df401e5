use Rattle.std.proofs.Common.{◌≡◌, map}
use Rattle.std.specs.Slice.Iter.{iter_rest}
use Rattle.json_tree.specs.View.{list_of as json_list_of}
use Rattle.attr_values.specs.Writing.{number_json}
use Rattle.attr_values.proofs.spelling.are_numbers_spelled.Given as goal

abbrev pub invariant-loop-number : goal.invariant-loop-number
invariant-loop-number l = json_list_of (iter_rest l.rest) ≡ map number_json l.number-iterator → l.json ≡ map number_json l.set
