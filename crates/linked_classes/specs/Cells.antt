-- What contracts see of values at numbers, with holes between them.
use Rattle.std.specs.Prelude.{ℕ, List, Option, None, slice_index_or, refl}
use Rattle.std.specs.Coded.{Coded, code_by, coded×, coded_ℕ, coded_list, coded_option}

-- the value or nothing at each number; for which numbers there is room, and for how many more values
pub record Cells (T : Type 0) : Type 0 where
  pub cells : List (Option T)
  pub room : ℕ
  pub spare : ℕ

abbrev pub cells_code : {T : Type 0} → Coded T → Coded (Cells T)
cells_code {T} code =
    code_by
    (List (Option T) × (ℕ × ℕ))
    (coded× (coded_list (coded_option code)) (coded× coded_ℕ coded_ℕ))
    (λ s. (s.cells, (s.room, s.spare)))
    (λ p. record { cells = p.0; room = p.1.0; spare = p.1.1 })
    (λ _. refl)

-- the value at a number, beyond the end nothing
abbrev pub cell_at : {T : Type 0} → List (Option T) → ℕ → Option T
cell_at cells k = slice_index_or cells k None

-- the key of a number, beyond the end that of a hole, 2 ^ 32 - 1
abbrev pub key_at : List ℕ → ℕ → ℕ
key_at keys i = slice_index_or keys i 4294967295
