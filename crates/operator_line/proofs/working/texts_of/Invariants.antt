use Rattle.std.proofs.Common.{◌≡◌, ◌≤◌, length, map, string_bytes, take}
use Rattle.std.specs.Prelude.{vec_capacity}
use Rattle.book_journal.specs.Entries.{texts}
use Rattle.operator_line.proofs.working.texts_of.Given as goal

abbrev pub invariant-loop-line : goal.invariant-loop-line
invariant-loop-line l = (texts l.refs.items ≡ map string_bytes (take l.line-index l.lines)) × (length l.lines ≤ vec_capacity l.refs)
