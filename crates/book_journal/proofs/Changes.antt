-- Two changes in turn.
use Rattle.std.proofs.Common.{List, ◌++◌, subst, ◌∙◌}
use Rattle.std.specs.List.Sorted.{IsPermutation}
use Rattle.std.proofs.lemmas.List.{append_assoc}
use Rattle.std.proofs.lemmas.List.Sorted.{IsPermutation-trans, IsPermutation-append_left}
use Rattle.sqlite.specs.Order.{Row}
use Rattle.sqlite.specs.State.{State}
use Rattle.book_journal.specs.Change.{Inserts}
use Rattle.book_journal.specs.Entries.{entries}

more_rows : (old mid new added more : List Row) → IsPermutation (old ++ added) mid → IsPermutation (mid ++ more) new → IsPermutation (old ++ (added ++ more)) new
more_rows old mid new added more p q = IsPermutation-trans _ _ _ (subst (λ (l : List Row). IsPermutation l (mid ++ more)) (append_assoc old added more) (IsPermutation-append_left more (old ++ added) mid p)) q

pub inserts_then : (a b c : State) (added more : List Row) → Inserts a b added → Inserts b c more → Inserts a c (added ++ more)
inserts_then a b c added more p q =
    record { ready = q.ready; committed = q.committed ∙ p.committed; rows = more_rows (entries a.now.trees) (entries b.now.trees) (entries c.now.trees) added more p.rows q.rows }
