-- What the desk keeps when the log has gone on by an entry.
use Rattle.std.proofs.Common.{◌≡◌, ℕ, ◌+◌, sym, subst}
use Rattle.step_names.specs.Thread.{Thread}
use Rattle.book_events.specs.Cursors.{first_of_all}
use Rattle.book_log.proofs.Elsewhere.{starts_leave_others, steps_leave_others}
use Rattle.book_log.specs.Legal.{IsAccepted, IsLegal}
use Rattle.book_log.specs.Log.{Log, appended}
use Rattle.book_log.specs.declared.entry.Entry.{Entry}
use Rattle.book_log.specs.declared.entry.Entry.TheVariants.{Define, Start, Step as Stepped, Undo, Rollback, Settle, Hold}
use Rattle.shared_book.specs.Away.{Away, claimed_alone}
use Rattle.shared_book.specs.Entering.{GoesBackFor, IsDesk, claims_after}
use Rattle.shared_book.specs.Views.{DeskView}
use Rattle.shared_book.proofs.Answering.{counted_more}
use Rattle.shared_book.proofs.HeldBack.{were_more, were_none}
use Rattle.shared_book.proofs.Passing.{none_passed}
use Rattle.shared_book.proofs.Sought.{none_before_first, none_elsewhere}

module _ (begun log now : Log) (first total all spare : ℕ) (was : Away) (from to : Thread) (desk : IsDesk begun log first total spare was from) where
  -- steps were taken back
  back : (e : Entry) → IsAccepted log e → now ≡ appended log e → all ≡ total + 1 → to ≡ first_of_all → IsDesk begun now first all spare (claimed_alone was) to
  back e accepted is_next more at_first =
      (counted_more begun log now first total all e desk.0 is_next more, desk.1, were_none now (claimed_alone was) (none_passed was), none_before_first now (claimed_alone was) to at_first)

  by : (e : Entry) → IsLegal log → IsAccepted log e → now ≡ appended log e → all ≡ total + 1 → GoesBackFor e from to → IsDesk begun now first all spare (claims_after was e) to
  by (Start exec machine input) legal accepted is_next more goes =
      let e = Start exec machine input in
      let leaves = starts_leave_others log exec machine input legal accepted in
      (counted_more begun log now first total all e desk.0 is_next more, desk.1, were_more log now was e tt is_next desk.2, none_elsewhere log (appended log e) now was exec.exec from to leaves is_next goes desk.3)
  by (Stepped name kind) legal accepted is_next more goes =
      let e = Stepped name kind in
      let leaves = steps_leave_others log name kind legal accepted in
      (counted_more begun log now first total all e desk.0 is_next more, desk.1, were_more log now was e tt is_next desk.2, none_elsewhere log (appended log e) now was name.thread.exec from to leaves is_next goes desk.3)
  by (Define name machine) legal accepted is_next more goes = back (Define name machine) accepted is_next more goes
  by (Undo name) legal accepted is_next more goes = back (Undo name) accepted is_next more goes
  by (Rollback name undone) legal accepted is_next more goes = back (Rollback name undone) accepted is_next more goes
  by Settle legal accepted is_next more goes = back Settle accepted is_next more goes
  by (Hold name count) legal accepted is_next more goes = back (Hold name count) accepted is_next more goes

module _ (begun log now : Log) (first total all spare spare' : ℕ) (was is : Away) (from to : Thread) (d : DeskView) where
  pub entered : IsDesk begun log first total spare was from → record { log = log; first = first; claims = was } ≡ d → IsLegal d.log → (e one : Entry) → IsAccepted log e → now ≡ appended log e → one ≡ e
      → all ≡ total + 1 → spare' ≡ spare → is ≡ claims_after was one → GoesBackFor one from to → IsDesk begun now first all spare' is to
  entered desk d_is legal e one accepted is_next one_is more spare_is claims goes =
      let legal_then : IsLegal log = subst (λ (x : DeskView). IsLegal x.log) (sym d_is) legal in
      let back = subst (λ (x : Entry). GoesBackFor x from to) one_is goes in
      let so = by begun log now first total all spare was from to desk e legal_then accepted is_next more back in
      rw (spare_is, claims, one_is) so
