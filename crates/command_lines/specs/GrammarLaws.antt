-- Laws over the grammar of lines, each the contract of a function of the crate.
use Rattle.std.specs.Prelude.{◌≡◌, ℕ, List, IsTrue}
use Rattle.std.specs.Str.{is_utf8}
use Rattle.command_lines.specs.Grammar.{CommandView, Says, is_one_line}
use Rattle.command_lines.specs.Spelled.{line_of, IsProperCommand}

-- a line is one command at most
abbrev pub LineSaysOne : Type 0
LineSaysOne = (line : List ℕ) (a b : CommandView) → Says a line → Says b line → a ≡ b

-- a line that is a command is its one line, and the command keeps what commands keep
abbrev pub LineIsSpelled : Type 0
LineIsSpelled = (line : List ℕ) (command : CommandView) → Says command line → IsTrue (is_utf8 line) × IsTrue (is_one_line line) × IsProperCommand command × (line ≡ line_of command)

-- and each such line is that command
abbrev pub LineIsRead : Type 0
LineIsRead = (command : CommandView) → IsProperCommand command → IsTrue (is_utf8 (line_of command)) → IsTrue (is_one_line (line_of command)) → Says command (line_of command)
