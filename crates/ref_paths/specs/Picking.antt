-- What a path picks (Amazon States Language, "Reference Paths").
use Rattle.std.specs.Prelude.{ℕ, List, [], ◌∷◌, Option, Some, None, option_and_then, slice_get}
use Rattle.json_tree.specs.Data.{Data, list, fields, Items, no_items, item, Members, no_members, member}
use Rattle.json_tree.specs.Fields.{get_field}
use Rattle.ref_paths.specs.declared.path.PathStep.{PathStep}
use Rattle.ref_paths.specs.declared.path.PathStep.TheVariants.{Name, Index}

-- the values of a list, in order
abbrev pub values_of : Items → List Data
values_of no_items = []
values_of (item d ds) = d ∷ values_of ds

-- the fields of an object, in order
abbrev pub pairs_of : Members → List (List ℕ × Data)
pairs_of no_members = []
pairs_of (member k d ms) = (k, d) ∷ pairs_of ms

-- a name leads to that field of an object, an index to that element of a list from 0, and all else nowhere
abbrev pub child_at : PathStep → Data → Option Data
child_at (Name name) (fields ms) = get_field name (pairs_of ms)
child_at (Index n) (list ds) = slice_get (values_of ds) n
child_at _ _ = None

-- no step picks the value itself; else the rest of the path picks from where the first step leads
abbrev pub pick_at : List PathStep → Data → Option Data
pick_at [] d = Some d
pick_at (step ∷ path) d = option_and_then (pick_at path) (child_at step d)
