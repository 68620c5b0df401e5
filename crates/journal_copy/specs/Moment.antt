-- When a file and its log are of one moment.
use Rattle.std.specs.Prelude.{ℕ, Bool, ◌&&◌, List, take, bytes_eq}

-- The log's header, of 32 bytes, was the same before and after, and it is that of the log that was read.
abbrev pub is_still : List ℕ → List ℕ → List ℕ → Bool
is_still before log after = bytes_eq before after && bytes_eq before (take 32 log)
