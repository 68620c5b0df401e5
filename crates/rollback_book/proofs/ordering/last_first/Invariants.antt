use Rattle.std.proofs.Common.{◌≡◌, ◌++◌, drop}
use Rattle.rollback_book.proofs.ordering.last_first.Given as goal

-- the names that were copied, and those from here on
abbrev pub invariant-loop-name : goal.invariant-loop-name
invariant-loop-name l = l.copies.items ++ drop l.name-index l.names ≡ l.names
