-- What each seat may take of the budget of a round.
use Rattle.std.specs.Prelude.{ℕ, zero, suc, ◌+◌, ◌/◌, ◌%◌, nat_lt, if◌then◌else◌, List, [], ◌∷◌, ◌++◌}

-- by its place, from 0 on, if so many seats share the budget: the first ones have one more, as many as remain if it doesn't divide
abbrev pub share_at : ℕ → ℕ → ℕ → ℕ
share_at budget seats place = if nat_lt place (budget % seats) then budget / seats + 1 else budget / seats

-- what the first seats may take
abbrev pub first_shares : ℕ → ℕ → ℕ → List ℕ
first_shares budget seats zero = []
first_shares budget seats (suc n) = first_shares budget seats n ++ share_at budget seats n ∷ []

-- what each may take
abbrev pub shares_of : ℕ → ℕ → List ℕ
shares_of budget seats = first_shares budget seats seats
