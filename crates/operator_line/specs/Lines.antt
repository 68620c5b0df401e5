-- Lines, as they are put together. A line that is too long is nothing.
use Rattle.std.specs.Prelude.{ℕ, ◌+◌, ◌-◌, ◌==◌, List, [], ◌∷◌, ◌++◌, length, take, drop, nat_le, if◌then◌else◌, Option, None, Some, option_and_then}
use lib.Pointwise.{pointwise}
use Rattle.command_lines.specs.Grammar.{longest_line}
use Rattle.operator_line.specs.declared.line.Line.{Line}
use Rattle.operator_line.specs.declared.line.Line.TheVariants.{Whole, TooLong}

-- what has come of a line, and these bytes: 1,048,576 and a carriage return are the most that are kept
abbrev pub grown : List ℕ → Option (List ℕ) → Option (List ℕ)
grown more None = None
grown more (Some bytes) = if nat_le (length bytes + length more) 1048577 then Some (bytes ++ more) else None

-- what is kept of a line that has begun so
abbrev pub kept_front : List ℕ → Option (List ℕ)
kept_front front = if nat_le (length front) 1048577 then Some front else None

-- a line has at most 1,048,576 bytes
abbrev pub within_limit : List ℕ → Option (List ℕ)
within_limit bytes = if nat_le (length bytes) longest_line then Some bytes else None

-- the bytes without one carriage return at their end
abbrev pub without_return : List ℕ → List ℕ
without_return bytes = if pointwise ◌==◌ (drop (length bytes - 1) bytes) (13 ∷ []) then take (length bytes - 1) bytes else bytes

-- the line that a line feed ends
abbrev pub ended_line : Option (List ℕ) → Option (List ℕ)
ended_line line = option_and_then (λ bytes. within_limit (without_return bytes)) line

abbrev pub bytes_of : Line → Option (List ℕ)
bytes_of (Whole line) = Some line.now
bytes_of TooLong = None

-- the line that the end of the input ends, if anything came of it
abbrev pub last_line : Option (List ℕ) → Option (Option (List ℕ))
last_line None = Some None
last_line (Some []) = None
last_line (Some (b ∷ bytes)) = Some (within_limit (b ∷ bytes))
