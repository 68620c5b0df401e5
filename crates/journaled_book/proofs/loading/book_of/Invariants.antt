use Rattle.std.proofs.Common.{◌≡◌, map, string_bytes, take}
use Rattle.journaled_book.specs.Journaled.{log_of}
use Rattle.journaled_book.specs.Opening.{Give}
use Rattle.journaled_book.proofs.loading.book_of.Given as goal

abbrev pub invariant-loop-line : goal.invariant-loop-line
invariant-loop-line g l = record { place : l.place ≡ l.line-index; given : Give (map string_bytes (take l.line-index l.lines)) (log_of g.B.Events.log l.book) }
