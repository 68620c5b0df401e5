-- Values in a list, each at a number that stays its own.
use Rattle.std.specs.Prelude.{◌≡◌, ◌<◌, ◌≤◌, ℕ, Bool, ◌&&◌, nat_lt, nat_le, List, [], ◌∷◌, Option, None, Some, IsSome, length, slice_get, refl}
use Rattle.std.specs.Coded.{Coded, code_by, coded×, coded_ℕ, coded_list, coded_bool}
use Rattle.linked_classes.specs.Cells.{Cells, cell_at}
use Rattle.linked_classes.specs.Numbers.{Numbers}
use Rattle.linked_classes.specs.Places.{IsRising}

-- the values in their order, the number of each, the next number, and whether there is room for one more
pub record Listed (T : Type 0) : Type 0 where
  pub items : List T
  pub numbers : List ℕ
  pub end : ℕ
  pub has_room : Bool

abbrev pub listed_code : {T : Type 0} → Coded T → Coded (Listed T)
listed_code {T} code =
    code_by
    (List T × (List ℕ × (ℕ × Bool)))
    (coded× (coded_list code) (coded× (coded_list coded_ℕ) (coded× coded_ℕ coded_bool)))
    (λ s. (s.items, (s.numbers, (s.end, s.has_room))))
    (λ p. record { items = p.0; numbers = p.1.0; end = p.1.1.0; has_room = p.1.1.1 })
    (λ _. refl)

module _ {T : Type 0} where
  abbrev pub with_first : Option T → List T → List T
  with_first None xs = xs
  with_first (Some x) xs = x ∷ xs

  -- the values at numbers, as far as there are any
  abbrev pub values_at : (ℕ → Option T) → List ℕ → List T
  values_at f [] = []
  values_at f (n ∷ ns) = with_first (f n) (values_at f ns)

  -- each number has a value, and so have no others from the next number on
  pub record AreFilled (ns : List ℕ) (end : ℕ) (cells : List (Option T)) : Type 0 where
    pub rising : IsRising ns
    pub below : (i n : ℕ) → slice_get ns i ≡ Some n → n < end
    pub filled : (i n : ℕ) → slice_get ns i ≡ Some n → IsSome (cell_at cells n)
    pub reaches : length cells ≤ end

  -- the numbers have room for the next, and so have the values
  abbrev pub has_listed_room : Numbers → Cells T → Bool
  has_listed_room n c = n.has_room && (nat_lt n.end c.room && nat_le 1 c.spare)
