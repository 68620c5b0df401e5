use Rattle.std.proofs.Common.{◌≡◌, ◌++◌, map}
use Rattle.json_tree.specs.View.{list_of as json_list_of}
use Rattle.attr_values.specs.Writing.{number_json}
use Rattle.attr_values.proofs.writing.write_numbers.Given as goal

abbrev pub invariant-loop-number : goal.invariant-loop-number
invariant-loop-number l = json_list_of l.numbers.items ++ map number_json l.number-iterator ≡ map number_json l.set
