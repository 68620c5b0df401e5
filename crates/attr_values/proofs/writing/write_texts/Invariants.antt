use Rattle.std.proofs.Common.{◌≡◌, ◌++◌, map}
use Rattle.json_tree.specs.Data as json
use Rattle.json_tree.specs.View.{list_of as json_list_of}
use Rattle.attr_values.proofs.writing.write_texts.Given as goal

abbrev pub invariant-loop-text : goal.invariant-loop-text
invariant-loop-text l = json_list_of l.texts.items ++ map json.text l.text-iterator ≡ map json.text l.set
