-- How texts are quoted on a page, so that none of their bytes ends what has them.
use Rattle.std.specs.Prelude.{ℕ, ◌==◌, List, [], ◌∷◌, codes, flat_map, if◌then◌else◌}

-- In text and in double quotes of HTML the characters that mean something there are named.
abbrev pub html_byte : ℕ → List ℕ
html_byte b = if b == 38 then codes "&amp;" else if b == 60 then codes "&lt;" else if b == 62 then codes "&gt;" else if b == 34 then codes "&quot;" else b ∷ []

abbrev pub html_text : List ℕ → List ℕ
html_text bytes = flat_map html_byte bytes

-- In JSON within an element of a script no tag begins: a less-than sign has its number there, which JSON reads as the same.
abbrev pub data_byte : ℕ → List ℕ
data_byte b = if b == 60 then codes "\\u003c" else b ∷ []

abbrev pub data_text : List ℕ → List ℕ
data_text bytes = flat_map data_byte bytes
