use Rattle.std.proofs.Common.{◌≡◌, ℕ, Less, List, subst}
use Rattle.std.specs.BTreeSet.{contains}
use Rattle.std.specs.Cmp.Lexicographic.{slice_cmp}
use Rattle.std.specs.Ordering.{nat_cmp}
use Rattle.std.specs.String.{string_bytes}
use Rattle.saved_steps.proofs.Earliest.{before_first, nothing_before}
use Rattle.step_names.specs.Order.{thread_cmp}
use Rattle.book_log.specs.Log.{world_of}
use Rattle.rollback_book.proofs.book.Book.first_ready.Goals as goal

pub first_ready_from-requires : goal.first_ready_from-requires
first_ready_from-requires c =
    before_first (world_of c.args.self.now.log).frames (contains thread_cmp c.args.outside.now) (string_bytes c.new.result)
    (λ t named less. absurd (nothing_before t.exec (subst (λ (x : List ℕ). slice_cmp nat_cmp t.exec x ≡ Less) c.new.ensures.bytes less)))
