-- What contracts see of a pass and of what lies under the lock.
use Rattle.std.specs.Prelude.{◌≡◌, ℕ, ◌+◌, ◌-◌, ◌/◌, List, [], ◌++◌, length}
use Rattle.book_log.specs.Log.{Log}
use Rattle.book_log.specs.declared.entry.Entry.{Entry}
use Rattle.shared_book.specs.Away.{Away}
use Rattle.shared_book.specs.declared.receipt.Receipt.{Receipt}

-- how many entries were seen, the receipts, and the parts of the right to call
pub record PassView : Type 0 where
  pub seen : ℕ
  pub receipts : List Receipt
  pub parts : ℕ

-- what stays with a pass of which another one is made, and what the other one has
abbrev pub first_half : PassView → PassView
first_half had = record { seen = had.seen; receipts = had.receipts; parts = had.parts - had.parts / 2 }

abbrev pub second_half : PassView → PassView
second_half had = record { seen = had.seen; receipts = []; parts = had.parts / 2 }

-- the log of the book, the number of its first entry since it was shared, and the threads that a claim leaves out
pub record DeskView : Type 0 where
  pub log : Log
  pub first : ℕ
  pub claims : Away

-- a log that began so, and went on
pub record ExtendsLog (begun now : Log) : Type 0 where
  pub begin : now.begin ≡ begun.begin
  pub more : List Entry
  pub entries : now.entries ≡ begun.entries ++ more

-- the log goes on from where the book was shared, by as many entries as receipts were handed out
pub record IsCounted (begun log : Log) (first total : ℕ) : Type 0 where
  pub goes : ExtendsLog begun log
  pub is_first : first ≡ length begun.entries + 1
  pub counted : first + total ≡ length log.entries + 1

abbrev pub with_claims : DeskView → Away → DeskView
with_claims d claims = record { log = d.log; first = d.first; claims = claims }
