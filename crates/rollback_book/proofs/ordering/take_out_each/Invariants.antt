use Rattle.std.proofs.Common.{◌≡◌, drop, map}
use Rattle.rollback_book.specs.Ordering.{order_refusal}
use Rattle.rollback_book.specs.Settling.{absent_in}
use Rattle.rollback_book.proofs.ordering.take_out_each.Given as goal

-- what is left decides of the names from here on
abbrev pub invariant-loop-name : goal.invariant-loop-name
invariant-loop-name l =
    order_refusal (absent_in l.settled.items) (map (λ r. r.fact) l.left.items) (drop l.name-index l.steps) ≡ order_refusal (absent_in l.settled.items) (map (λ r. r.fact) l.fn.left.items) l.steps
