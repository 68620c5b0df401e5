use Rattle.std.proofs.Common.{take}
use Rattle.shared_book.specs.Closed.{AllAreLogged, all_receipts}
use Rattle.shared_book.proofs.closing.all_among.Given as goal

abbrev pub invariant-loop-pass : goal.invariant-loop-pass
invariant-loop-pass g l = AllAreLogged l.entries (all_receipts (take l.pass-index l.passes))
