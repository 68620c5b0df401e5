-- What the desk keeps when the log has gone on by an entry.
use Rattle.std.specs.Prelude.{◌≡◌, ℕ}
use Rattle.step_names.specs.Thread.{Thread}
use Rattle.book_events.specs.Cursors.{GoesBack, first_of_all}
use Rattle.book_log.specs.Log.{Log, appended}
use Rattle.book_log.specs.declared.entry.Entry.{Entry}
use Rattle.book_log.specs.declared.entry.Entry.TheVariants.{Start, Step as Stepped}
use Rattle.shared_book.specs.Away.{Away, WereRefused, claimed_alone}
use Rattle.shared_book.specs.Seeking.{NoneBefore}
use Rattle.shared_book.specs.Views.{DeskView, IsCounted}

-- none is passed by after an entry that isn't of a start or a step
abbrev pub claims_after : Away → Entry → Away
claims_after a (Start exec machine input) = a
claims_after a (Stepped name kind) = a
claims_after a _ = claimed_alone a

abbrev pub desk_after : DeskView → Entry → DeskView
desk_after d e = record { log = appended d.log e; first = d.first; claims = claims_after d.claims e }

-- how far a search goes back for an entry: before its execution, or before all
abbrev pub GoesBackFor : Entry → Thread → Thread → Type 0
GoesBackFor (Start exec machine input) from to = GoesBack exec.exec from to
GoesBackFor (Stepped name kind) from to = GoesBack name.thread.exec from to
GoesBackFor _ from to = to ≡ first_of_all

-- what holds of the book's log, the ledger, the claims and the place of the cursor
abbrev pub IsDesk : Log → Log → ℕ → ℕ → ℕ → Away → Thread → Type 0
IsDesk begun log first total spare claims place = IsCounted begun log first total × (spare ≡ 0) × WereRefused log claims × NoneBefore log claims place
