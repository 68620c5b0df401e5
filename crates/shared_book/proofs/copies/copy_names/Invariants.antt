use Rattle.std.proofs.Common.{◌≡◌, ◌++◌, drop}
use Rattle.shared_book.proofs.copies.copy_names.Given as goal

-- the names that were copied, and those from here on
abbrev pub invariant-loop-name : goal.invariant-loop-name
invariant-loop-name l = l.copies.items ++ drop l.name-index l.names ≡ l.names
