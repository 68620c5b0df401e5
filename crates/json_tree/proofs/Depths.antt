-- What a list or some fields hold nests no deeper than they do, for the measure of a recursion over them.
use Rattle.std.proofs.Common.{ℕ, zero, suc, ◌<◌, ◌≤◌, List, [], ◌∷◌, length, get_or, arith}
use Rattle.json_tree.specs.Data.{depth, list_depth, fields_depth}
use Rattle.json_tree.specs.View.{data_of, list_of, fields_of}
use Rattle.json_tree.specs.declared.tree.Json.{Json}
use Rattle.json_tree.specs.declared.tree.Field.{Field}

-- an element of a list
pub depth-get_or : (js : List Json) (i : ℕ) (d : Json) → i < length js → depth (data_of (get_or js i d)) ≤ list_depth (list_of js)
depth-get_or [] i d h = absurd (omega arith)
depth-get_or (j ∷ js) zero d h = omega arith
depth-get_or (j ∷ js) (suc i) d h = omega (arith, depth-get_or js i d (omega arith))

-- the value of a field
pub depth-field : (fs : List Field) (i : ℕ) (d : Field) → i < length fs → depth (data_of (get_or fs i d).value) ≤ fields_depth (fields_of fs)
depth-field [] i d h = absurd (omega arith)
depth-field (f ∷ fs) zero d h = omega arith
depth-field (f ∷ fs) (suc i) d h = omega (arith, depth-field fs i d (omega arith))
