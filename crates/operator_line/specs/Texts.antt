-- The lines of a text: each is ended by a line feed, of which one carriage return before it is dropped; the last may lack
-- its end, and keeps all its bytes. A line that is too long is nothing.
use Rattle.std.specs.Prelude.{ℕ, ◌==◌, Bool, not, List, [], ◌∷◌, ◌++◌, Option, if◌then◌else◌}
use Rattle.std.specs.List.{list_all}
use Rattle.operator_line.specs.Lines.{within_limit, without_return}

-- what stands after the last line feed: a line, unless it is empty
abbrev pub last_line_of : List ℕ → List (Option (List ℕ))
last_line_of [] = []
last_line_of (b ∷ front) = within_limit (b ∷ front) ∷ []

-- the lines of a text whose first line has already begun so
abbrev pub lines_after : List ℕ → List ℕ → List (Option (List ℕ))
lines_after front [] = last_line_of front
lines_after front (c ∷ text) =
    if c == 10 then within_limit (without_return front) ∷ lines_after [] text else lines_after (front ++ c ∷ []) text

abbrev pub lines_of : List ℕ → List (Option (List ℕ))
lines_of text = lines_after [] text

abbrev pub has_no_feed : List ℕ → Bool
has_no_feed = list_all (λ b. not (b == 10))
