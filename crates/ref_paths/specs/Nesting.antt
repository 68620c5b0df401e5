-- Objects of one field each, one inside the other.
use Rattle.std.specs.Prelude.{List, [], ◌∷◌, Bool, true, false}
use Rattle.json_tree.specs.Data.{Data, fields, no_members, member}
use Rattle.ref_paths.specs.declared.path.PathStep.{PathStep}
use Rattle.ref_paths.specs.declared.path.PathStep.TheVariants.{Name, Index}

abbrev pub is_name_step : PathStep → Bool
is_name_step (Name name) = true
is_name_step (Index n) = false

-- the value inside an object for each name, the first name outermost
abbrev pub nested : List PathStep → Data → Data
nested [] d = d
nested (Name name ∷ path) d = fields (member name (nested path d) no_members)
nested (Index n ∷ path) d = nested path d
