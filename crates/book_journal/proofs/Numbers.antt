-- The numbers that lines get.
use Rattle.std.proofs.Common.{◌≡◌, ◌≢◌, ◌<◌, ◌+◌, ℕ, ℤ, pos, List, [], ◌∷◌, ◌++◌, map, take, drop, length, get_or, Option, Some, refl, sym, ap, ◌∙◌, arith}
use Rattle.std.proofs.lemmas.List.{take_more, drop_more, map-append, take-append-drop}
use Rattle.sqlite.specs.declared.types.Value.TheVariants.{Int}
use Rattle.sqlite.specs.Order.{Row}
use Rattle.book_journal.specs.Entries.{entry, numbered, row_number, number_after, last_after, pair, HaveGapAt}

-- one line more
pub numbered_more : (last : Option ℤ) (lines : List (List ℕ)) (line : List ℕ)
    → numbered (number_after last) (lines ++ line ∷ []) ≡ numbered (number_after last) lines ++ entry (number_after (last_after last lines)) line ∷ []
numbered_more last [] line = refl
numbered_more last (first ∷ lines) line = ap (λ rows. entry (number_after last) first ∷ rows) (numbered_more (Some (number_after last)) lines line)

pub last_after_more : (last : Option ℤ) (lines : List (List ℕ)) (line : List ℕ) → last_after last (lines ++ line ∷ []) ≡ Some (number_after (last_after last lines))
last_after_more last [] line = refl
last_after_more last (first ∷ lines) line = last_after_more (Some (number_after last)) lines line

numbered_from : (n : ℕ) (lines : List (List ℕ)) (line : List ℕ) → numbered (pos n) (lines ++ line ∷ []) ≡ numbered (pos n) lines ++ entry (pos (n + length lines)) line ∷ []
numbered_from n [] line = ap (λ (m : ℕ). entry (pos m) line ∷ []) (omega arith)
numbered_from n (first ∷ lines) line =
    ap (λ rows. entry (pos n) first ∷ rows) (numbered_from (n + 1) lines line ∙ ap (λ (m : ℕ). numbered (pos (n + 1)) lines ++ entry (pos m) line ∷ []) (omega arith))

-- one line more after those that are numbered from 0
pub one_more : (at : ℕ) (rows : List Row) (lines : List (List ℕ)) (d row : Row) (line : List ℕ) → at < length rows → length lines ≡ at
    → map pair (take at rows) ≡ numbered (pos 0) lines → get_or rows at d ≡ row → pair row ≡ entry (pos at) line → map pair (take (at + 1) rows) ≡ numbered (pos 0) (lines ++ line ∷ [])
one_more at rows lines d row line low count before item is =
    ap (map pair) (take_more rows at d low) ∙ map-append pair (take at rows) (get_or rows at d ∷ [])
    ∙ rw (before, item, is, numbered_from 0 lines line) (ap (λ (m : ℕ). numbered (pos 0) lines ++ entry (pos m) line ∷ []) (omega (arith, count)))

pub gap_at : (at : ℕ) (rows : List Row) (lines : List (List ℕ)) (d row : Row) → at < length rows → length lines ≡ at → map pair (take at rows) ≡ numbered (pos 0) lines
    → get_or rows at d ≡ row → row_number row ≢ Int (pos at) → HaveGapAt at (map pair rows)
gap_at at rows lines d row low count before item differs = record {
  before = lines;
  first = pair row;
  after = map pair (drop (at + 1) rows);
  parts = ap (map pair) (sym (take-append-drop at rows)) ∙ map-append pair (take at rows) (drop at rows) ∙ rw (before, drop_more rows at d low, item) refl;
  position_is = sym count;
  differs = differs;
}
