-- Entries by their numbers, and the logs that a caller can have seen.
use Rattle.std.specs.Prelude.{◌≡◌, ◌≢◌, ℕ, ◌-◌, ◌<◌, ◌≤◌, ◌==◌, ◌⊎◌, List, length, Option, None, Some, slice_get, if◌then◌else◌}
use Rattle.book_log.specs.declared.entry.Entry.{Entry}
use Rattle.shared_book.specs.declared.receipt.Receipt.{Receipt}

-- the entry of a number, counted from 1
abbrev pub entry_at : List Entry → ℕ → Option Entry
entry_at entries number = if number == 0 then None else slice_get entries (number - 1)

abbrev pub last_of : List Receipt → Option Receipt
last_of receipts = slice_get receipts (length receipts - 1)

-- the receipt's entry stands at its number
abbrev pub IsLogged : List Entry → Receipt → Type 0
IsLogged entries r = entry_at entries r.number ≡ Some r.entry

abbrev pub LastIsLogged : List Entry → Option Receipt → Type 0
LastIsLogged entries None = Unit {0}
LastIsLogged entries (Some r) = IsLogged entries r

-- who has seen so many entries, and holds this last receipt, can have seen the log
pub record IsKnown (entries : List Entry) (seen : ℕ) (last : Option Receipt) : Type 0 where
  pub long : seen ≤ length entries
  pub stands : LastIsLogged entries last

-- at the last receipt's number stands another entry, or none
abbrev pub IsOther : Option Receipt → ℕ → Option Entry → Type 0
IsOther None number there = ⊥
IsOther (Some r) number there = (r.number ≡ number) × (there ≢ Some r.entry)

-- another entry stands at the last receipt's number; or the last receipt is logged, and the log is shorter than what was seen
pub record IsForeign (entries : List Entry) (seen : ℕ) (last : Option Receipt) (number : ℕ) (there : Option Entry) : Type 0 where
  pub is_there : entry_at entries number ≡ there
  pub why : ((number ≡ seen) × (length entries < seen) × LastIsLogged entries last) ⊎ IsOther last number there
