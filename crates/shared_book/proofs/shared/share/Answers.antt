use Rattle.std.proofs.Common.{rules}
use Rattle.book_events.specs.Cursors.{cursor_place}
use Rattle.shared_book.proofs.Sought.{none_before_first}
use Rattle.shared_book.proofs.shared.share.Goals as goal

pub invariant_of-desk : goal.invariant_of-desk
invariant_of-desk g c = (
  search rules,
  search rules,
  search rules,
  none_before_first (g.B.Events.log c.args.book) c.new.result (cursor_place c.new-2.result) c.new-2.ensures,
)
