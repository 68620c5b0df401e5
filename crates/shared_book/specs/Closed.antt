-- A book that was closed, and why one isn't.
use Rattle.std.specs.Prelude.{◌≡◌, ◌⊎◌, ℕ, ◌+◌, ◌<◌, ◌≤◌, ◌==◌, Bool, ◌&&◌, ◌||◌, if◌then◌else◌, nat_le, nat_lt, List, [], ◌∷◌, ◌++◌, length, Option, Some, slice_get}
use Rattle.book_log.specs.Log.{Log}
use Rattle.book_log.specs.declared.entry.Entry.{Entry}
use Rattle.shared_book.specs.Numbers.{IsForeign, IsKnown, IsLogged, last_of}
use Rattle.shared_book.specs.Views.{PassView, ExtendsLog}
use Rattle.shared_book.specs.declared.receipt.Receipt.{Receipt}
use Rattle.shared_book.specs.declared.refusal.CloseFault.{CloseFault}
use Rattle.shared_book.specs.declared.refusal.CloseFault.TheVariants.{Missing, ForeignPass, Memory}

-- the receipts of all passes
abbrev pub all_receipts : List PassView → List Receipt
all_receipts [] = []
all_receipts (p ∷ ps) = p.receipts ++ all_receipts ps

-- how many of the receipts have this number
abbrev pub receipt_times : ℕ → List Receipt → ℕ
receipt_times k [] = 0
receipt_times k (r ∷ rs) = (if r.number == k then 1 else 0) + receipt_times k rs

-- a mark that was set, or that one of the receipts sets
abbrev pub is_marked : Bool → ℕ → List Receipt → Bool
is_marked was k rs = was || nat_lt 0 (receipt_times k rs)

abbrev pub AllAreLogged : List Entry → List Receipt → Type 0
AllAreLogged entries [] = Unit {0}
AllAreLogged entries (r ∷ rs) = IsLogged entries r × AllAreLogged entries rs

-- 1 from a on and below b, and else 0
abbrev pub once_within : ℕ → ℕ → ℕ → ℕ
once_within a b k = if nat_le a k && nat_lt k b then 1 else 0

-- The book went on from where it was shared, so its earlier entries stayed. Each receipt's entry stands in the log at its number, and
-- each number since then has one receipt.
pub record IsClosed (begun now : Log) (rs : List Receipt) : Type 0 where
  pub goes : ExtendsLog begun now
  pub stand : AllAreLogged now.entries rs
  pub as_many : length begun.entries + length rs ≡ length now.entries
  pub once : (k : ℕ) → receipt_times k rs ≡ once_within (length begun.entries + 1) (length now.entries + 1) k

-- one of the receipts, or how many entries were seen, isn't of this log
abbrev pub IsForeignAmong : List Entry → ℕ → List Receipt → ℕ → Option Entry → Type 0
IsForeignAmong entries seen rs number there = (j : ℕ) × IsForeign entries seen (slice_get rs j) number there

-- its last receipt isn't of this log, or it has seen more; or the last one is, and another receipt isn't
abbrev pub IsForeignPass : List Entry → PassView → ℕ → Option Entry → Type 0
IsForeignPass entries p number there =
    IsForeign entries p.seen (last_of p.receipts) number there ⊎ (IsKnown entries p.seen (last_of p.receipts) × IsForeignAmong entries p.seen p.receipts number there)

-- so it is in one of the passes
abbrev pub SomeForeign : List Entry → List PassView → ℕ → Option Entry → Type 0
SomeForeign entries ps number there = (i : ℕ) × (p : PassView) × (slice_get ps i ≡ Some p) × IsForeignPass entries p number there

-- a pass is of another book, or an entry from this number on has no receipt
abbrev pub IsUnsettled : ℕ → List Entry → List PassView → CloseFault → Type 0
IsUnsettled first entries ps (Missing number) = (first ≤ number) × (number ≤ length entries) × (receipt_times number (all_receipts ps) ≡ 0)
IsUnsettled first entries ps (ForeignPass number there) = SomeForeign entries ps number there
IsUnsettled first entries ps Memory = Unit {0}

-- for what stands at this number, or for memory
abbrev pub IsForeignReason : ℕ → Option Entry → CloseFault → Type 0
IsForeignReason n entry (ForeignPass number there) = (number ≡ n) × (there ≡ entry)
IsForeignReason n entry Memory = Unit {0}
IsForeignReason n entry (Missing number) = ⊥

-- the passes are of this log, and each number from first on has a receipt
pub record IsSettled (entries : List Entry) (first : ℕ) (ps : List PassView) : Type 0 where
  pub stand : AllAreLogged entries (all_receipts ps)
  pub all : (k : ℕ) → first ≤ k → k < length entries + 1 → 0 < receipt_times k (all_receipts ps)
