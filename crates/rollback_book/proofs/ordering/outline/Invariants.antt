use Rattle.std.proofs.Common.{◌≡◌, map, take}
use Rattle.rollback_book.proofs.ordering.outline.Given as goal

-- the facts of the records that were passed
abbrev pub invariant-loop-place : goal.invariant-loop-place
invariant-loop-place l = map (λ r. r.fact) l.left.items ≡ map (λ r. r.fact) (take l.place l.records.items)
