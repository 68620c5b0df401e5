-- Rising numbers, each at a place; and the blocks in which they lie.
use Rattle.std.specs.Prelude.{◌≡◌, ◌<◌, ◌≤◌, ◌+◌, ◌*◌, ◌-◌, ℕ, zero, suc, Bool, ◌&&◌, ◌||◌, nat_lt, nat_le, List, [], ◌∷◌, ◌++◌, Some, length, remove, slice_get, slice_set, vec_capacity}
use Rattle.linked_classes.specs.Places.{IsRising}
use Rattle.linked_classes.specs.declared.numbers.Block.{Block}

-- the numbers in their order; the next number; and whether there is room for it
pub record Numbers : Type 0 where
  pub items : List ℕ
  pub end : ℕ
  pub has_room : Bool

-- ---- blocks

abbrev pub joined : List Block → List ℕ
joined [] = []
joined (b ∷ bs) = b.numbers.items ++ joined bs

-- each block tells the place of its first number, from that of the first
abbrev pub AreStarts : ℕ → List Block → Type 0
AreStarts s [] = Unit {0}
AreStarts s (b ∷ bs) = (b.start ≡ s) × AreStarts (s + length b.numbers.items) bs

-- the block at a place holds numbers of the 512 that are its own, and has room for all of these
pub record IsOwn (end k : ℕ) (b : Block) : Type 0 where
  pub own : (i n : ℕ) → slice_get b.numbers.items i ≡ Some n → (512 * k ≤ n) × (n < 512 * k + 512) × (n < end)
  pub few : length b.numbers.items ≤ 512
  pub reached : 512 * k + length b.numbers.items ≤ end
  pub low : b.start ≤ 512 * k
  pub roomy : 512 ≤ vec_capacity b.numbers

pub record AreBlocks (bs : List Block) (end : ℕ) : Type 0 where
  pub starts : AreStarts 0 bs
  pub blocks : (k : ℕ) (b : Block) → slice_get bs k ≡ Some b → IsOwn end k b
  pub rising : IsRising (joined bs)
  pub covered : end ≤ 512 * length bs
  pub needed : 512 * length bs < end + 512
  pub small : end ≤ 4294967295

-- so many blocks, with the next number, have room for it: in the last, or in a fresh one
abbrev pub has_number_room : ℕ → ℕ → ℕ → ℕ → Bool
has_number_room count capacity fresh end = nat_lt end 4294967295 && (nat_lt end (512 * count) || (nat_lt count capacity && nat_le 512 fresh))

-- the blocks from one on start one place earlier
abbrev pub lowered_blocks : ℕ → List Block → List Block
lowered_blocks k [] = []
lowered_blocks zero (b ∷ bs) = record b { start = b.start - 1 } ∷ lowered_blocks zero bs
lowered_blocks (suc k) (b ∷ bs) = b ∷ lowered_blocks k bs

-- the block at a place has one number less, and the others are as they were
pub record IsNumberTaken (old new : List Block) (here i : ℕ) (b : Block) (number : ℕ) : Type 0 where
  pub left : Block
  pub changed : new ≡ slice_set old here left
  pub start : left.start ≡ b.start
  pub items : left.numbers.items ≡ remove b.numbers.items i
  pub capacity : vec_capacity left.numbers ≡ vec_capacity b.numbers
  pub gives : slice_get b.numbers.items i ≡ Some number
