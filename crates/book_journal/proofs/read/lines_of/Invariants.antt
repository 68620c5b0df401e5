use Rattle.std.proofs.Common.{◌≡◌, pos, map, take, length, string_bytes}
use Rattle.book_journal.specs.Entries.{numbered, pair}
use Rattle.book_journal.proofs.read.lines_of.Given as goal

abbrev pub invariant-loop-row : goal.invariant-loop-row
invariant-loop-row l =
    (length l.lines.items ≡ l.row-index) × (map pair (take l.row-index l.rows) ≡ numbered (pos 0) (map string_bytes l.lines.items))
