-- Why a journal isn't opened, by what its own load tells.
use Rattle.std.proofs.Common.{◌≡◌, ℕ, refl, sym, subst}
use Rattle.sqlite.specs.State.{State}
use Rattle.sqlite.specs.declared.error.Error.{Error}
use Rattle.book_journal.specs.Entries.{HaveGap}
use Rattle.book_journal.specs.Faults.{RefusesRows}
use Rattle.book_journal.specs.Kept.{lines_in}
use Rattle.book_journal.specs.declared.fault.JournalFault.{JournalFault}
use Rattle.book_journal.specs.declared.fault.JournalFault.TheVariants.{Store, Gap, Memory}
use Rattle.journaled_book.specs.Opening.{RefusesOpen}
use Rattle.journaled_book.specs.Reading.{open_fault_of}
use Rattle.journaled_book.specs.declared.fault.OpenFault.{OpenFault}

pub refuses_open : (old new : State) (fault : JournalFault) (e : OpenFault) → e ≡ open_fault_of fault → ((n : ℕ) → fault ≡ Gap n → HaveGap (lines_in old) n)
    → ((cause : Error) → fault ≡ Store cause → RefusesRows old new (lines_in old) cause) → RefusesOpen old new e
refuses_open old new (Gap n) e is gap store = subst (RefusesOpen old new) (sym is) (gap n refl)
refuses_open old new (Store cause) e is gap store = subst (RefusesOpen old new) (sym is) (store cause refl)
refuses_open old new Memory e is gap store = subst (RefusesOpen old new) (sym is) tt
