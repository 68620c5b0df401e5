-- What a value becomes when another is placed in it.
use Rattle.std.specs.Prelude.{List, [], ◌∷◌, Option, Some, None, option_and_then, option_map, unwrap_or, slice_get, slice_set}
use Rattle.json_tree.specs.Data.{Data, list, fields, no_members, items_of, members_of}
use Rattle.json_tree.specs.Fields.{get_field, with_field}
use Rattle.ref_paths.specs.Picking.{values_of, pairs_of}
use Rattle.ref_paths.specs.declared.path.PathStep.{PathStep}
use Rattle.ref_paths.specs.declared.path.PathStep.TheVariants.{Name, Index}

-- What a step leads to for a value that is to be placed below: a field that an object lacks is made as an empty object.
abbrev pub opened_at : PathStep → Data → Option Data
opened_at (Name name) (fields ms) = Some (unwrap_or (get_field name (pairs_of ms)) (fields no_members))
opened_at (Index n) (list ds) = slice_get (values_of ds) n
opened_at _ _ = None

-- the value with another where a step leads: a name replaces or adds that field, an index replaces that element
abbrev pub put_value_at : PathStep → Data → Data → Data
put_value_at (Name name) d (fields ms) = fields (members_of (with_field name d (pairs_of ms)))
put_value_at (Index n) d (list ds) = list (items_of (slice_set (values_of ds) n d))
put_value_at _ d root = root

-- No step gives the placed value itself. Else it is placed by the rest of the path in what the first step leads to,
-- and the result put there.
abbrev pub place_at : List PathStep → Data → Data → Option Data
place_at [] value root = Some value
place_at (step ∷ path) value root = option_and_then (λ child. option_map (λ new. put_value_at step new root) (place_at path value child)) (opened_at step root)
