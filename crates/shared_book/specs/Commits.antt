-- What a caller that commits a turn is promised: a receipt of its thread's step, or why there is none.
use Rattle.std.specs.Prelude.{◌≡◌, ◌⊎◌, Bool, true, false, if◌then◌else◌, Err}
use Rattle.step_names.specs.Thread.{Thread}
use Rattle.book_log.specs.Log.{Log}
use Rattle.book_log.specs.declared.refusal.Refusal.{Refusal}
use Rattle.book_log.specs.declared.refusal.Refusal.TheVariants.{Memory}
use Rattle.book_events.specs.Prepared.{Prepared}
use Rattle.book_events.specs.Commits.{AnswersCommit, IsFresh}
use Rattle.book_events.specs.declared.commits.CommitRefusal.{CommitRefusal}
use Rattle.book_events.specs.declared.commits.CommitRefusal.TheVariants as book
use Rattle.shared_book.specs.Away.{claim_ended, passed_by}
use Rattle.shared_book.specs.Calls.{GivesReceipt, IsRefusedAt, IsRefusedFor, MaySee}
use Rattle.shared_book.specs.Views.{DeskView, PassView, with_claims}
use Rattle.shared_book.specs.declared.receipt.Receipt.{Receipt}
use Rattle.shared_book.specs.declared.refusal.SharedCommitRefusal.{SharedCommitRefusal}
use Rattle.shared_book.specs.declared.refusal.SharedCommitRefusal.TheVariants.{Stale, Held, Refused}
use Rattle.shared_book.specs.declared.refusal.SharedRefusal.TheVariants as shared

-- a receipt as of every call, where the turn was still its thread's before the receipt's entry
abbrev pub GivesTurn : Log → Thread → Prepared → PassView → PassView → Receipt → Type 0
GivesTurn begun t p had has r = (given : GivesReceipt begun had has r) × IsFresh given.before t p

-- so, and this is the log before it
abbrev pub GivesTurnAt : Log → Log → Thread → Prepared → PassView → PassView → Receipt → Type 0
GivesTurnAt begun at t p had has r = (turn : GivesTurn begun t p had has r) × (turn.0.before ≡ at)

-- for memory, or as the book refuses a turn that is its thread's at a log that the pass can have seen
abbrev pub IsTurnCause : Log → Thread → Prepared → PassView → Refusal → Type 0
IsTurnCause begun t p had e = (e ≡ Memory) ⊎ ((at : Log) × MaySee begun had at × AnswersCommit at t p (Err (book.Refused e)))

-- handed back as the book does at a log that the pass can have seen; or refused as every call is
abbrev pub IsNotTaken : Log → Thread → Prepared → PassView → SharedCommitRefusal → Type 0
IsNotTaken begun t p had (Stale why prepared) = (at : Log) × MaySee begun had at × AnswersCommit at t p (Err (book.Stale why prepared))
IsNotTaken begun t p had (Held step prepared) = (at : Log) × MaySee begun had at × AnswersCommit at t p (Err (book.Held step prepared))
IsNotTaken begun t p had (Refused e) = IsRefusedFor begun had (IsTurnCause begun t p had) e

-- for memory, or as the book refuses a turn that is its thread's at this log
abbrev pub IsTurnCauseAt : Log → Thread → Prepared → Refusal → Type 0
IsTurnCauseAt at t p e = (e ≡ Memory) ⊎ AnswersCommit at t p (Err (book.Refused e))

-- the same at this log
abbrev pub IsNotTakenAt : Log → Thread → Prepared → PassView → SharedCommitRefusal → Type 0
IsNotTakenAt at t p had (Stale why prepared) = AnswersCommit at t p (Err (book.Stale why prepared))
IsNotTakenAt at t p had (Held step prepared) = AnswersCommit at t p (Err (book.Held step prepared))
IsNotTakenAt at t p had (Refused e) = IsRefusedAt at had (IsTurnCauseAt at t p) e

-- refused since the step would depend on what a hold has left
abbrev pub is_turn_held : SharedCommitRefusal → Bool
is_turn_held (Stale why prepared) = false
is_turn_held (Held step prepared) = true
is_turn_held (Refused e) = false

-- the thread of a turn that is so refused is passed by, and after any other refusal the claim has ended
abbrev pub after_turn : DeskView → Thread → SharedCommitRefusal → DeskView
after_turn d t e = with_claims d (if is_turn_held e then passed_by d.claims t else claim_ended d.claims t)

-- ---- inside

-- how the book's refusal of a turn is told
abbrev pub shared_refusal : CommitRefusal → SharedCommitRefusal
shared_refusal (book.Stale why prepared) = Stale why prepared
shared_refusal (book.Held step prepared) = Held step prepared
shared_refusal (book.Refused e) = Refused (shared.Refused e)
