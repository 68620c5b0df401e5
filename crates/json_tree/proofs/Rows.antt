-- Some values and their texts, computed.
use Rattle.std.proofs.Common.{◌≡◌, negsuc, pos, false, Some, None, [], ◌∷◌, codes, refl}
use Rattle.std.specs.Fmt.{digits}
use Rattle.std.specs.Str.{chars, is_utf8}
use Rattle.serde_json.proofs.OnLiterals.{serde_json_on_literals}
use Rattle.json_tree.specs.Data.{null, boolean, whole, text, list, fields, no_items, item, no_members, member}
use Rattle.json_tree.specs.Reading.{read_json}
use Rattle.json_tree.specs.Written.{text_of}

some_list : text_of (list (item null (item (boolean false) (item (whole (negsuc 6)) no_items)))) ≡ codes "[null,false,-7]"
unfolding serde_json_on_literals digits
some_list = refl

some_fields : text_of (fields (member (codes "a") (text (codes "x\n")) (member (codes "b") (list no_items) no_members))) ≡ codes "{\"a\":\"x\\n\",\"b\":[]}"
unfolding serde_json_on_literals
some_fields = refl

-- a control character that has no letter of its own
escaped : text_of (text (31 ∷ [])) ≡ 34 ∷ 92 ∷ codes "u001f\""
unfolding serde_json_on_literals
escaped = refl

last_field : read_json (codes "{\"a\":1.5, \"a\":2}") ≡ Some (fields (member (codes "a") (whole (pos 2)) no_members))
unfolding serde_json_on_literals chars is_utf8
last_field = refl

no_whole : read_json (codes "[1.0]") ≡ None
unfolding serde_json_on_literals chars is_utf8
no_whole = refl
