-- How texts are quoted, so that none of their bytes ends what they are in.
use Rattle.std.specs.Prelude.{ℕ, ◌==◌, List, [], ◌∷◌, ◌++◌, codes, flat_map, if◌then◌else◌}

-- In the double quotes of a text of Graphviz a quotation mark and a backslash have a backslash before them, and an ampersand, which
-- begins the name of a character there, is named.
abbrev pub dot_byte : ℕ → List ℕ
dot_byte b = if b == 34 then 92 ∷ 34 ∷ [] else if b == 92 then 92 ∷ 92 ∷ [] else if b == 38 then codes "&amp;" else b ∷ []

abbrev pub dot_text : List ℕ → List ℕ
dot_text bytes = flat_map dot_byte bytes
