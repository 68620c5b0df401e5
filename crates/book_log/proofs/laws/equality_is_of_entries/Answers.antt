use Rattle.book_log.specs.EntrySame.{entry_exact}
use Rattle.book_log.proofs.laws.equality_is_of_entries.Goals as goal

pub returns : goal.returns
returns c = entry_exact
