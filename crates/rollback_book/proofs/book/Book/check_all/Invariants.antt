use Rattle.std.proofs.Common.{◌≡◌, drop}
use Rattle.rollback_book.specs.Rerunning.{all_remain}
use Rattle.rollback_book.proofs.book.Book.check_all.Given as goal

-- all remain where those from here on do
abbrev pub invariant-loop-name : goal.invariant-loop-name
invariant-loop-name l = all_remain l.self.log (drop l.name-index l.steps) ≡ all_remain l.self.log l.steps
