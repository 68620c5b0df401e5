-- How often each retrier of a state was used at this visit, as counters in the retriers' order.
use Rattle.std.specs.Prelude.{ℕ, zero, suc, List, [], ◌∷◌}

-- after one more use of the one at this place
abbrev pub one_more : List ℕ → ℕ → List ℕ
one_more [] i = []
one_more (n ∷ counters) zero = suc n ∷ counters
one_more (n ∷ counters) (suc i) = n ∷ one_more counters i
