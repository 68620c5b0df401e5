-- Laws of machines.
use Rattle.asl_states.specs.PathSame.{IsExact}
use Rattle.asl_tree.specs.Same.{same_definition}

-- what `==` says of machines holds exactly where they are one
abbrev pub EqualityIsOfMachines : Type 0
EqualityIsOfMachines = IsExact same_definition
