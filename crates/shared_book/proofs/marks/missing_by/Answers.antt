use Rattle.shared_book.proofs.Marking.{found_new}
use Rattle.shared_book.proofs.marks.missing_by.Goals as goal

pub returns : goal.returns
returns g c = found_new _ _ _ _ _ _ c.requires.fit.0 c.requires.blank c.mark_all.ensures.len c.mark_all.ensures.marked c.unmarked.ensures
