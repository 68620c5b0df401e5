-- What is promised of the passes where workers take back what is left of a hold.
use Rattle.std.specs.Prelude.{◌≡◌, ℕ, ◌+◌, ◌≤◌, Bool, true, false, if◌then◌else◌, List, [], ◌∷◌, ◌++◌, length}
use Rattle.std.specs.declared.vec.Vec.{Vec}
use Rattle.book_log.specs.Log.{Log, left_of}
use Rattle.book_log.specs.declared.entry.Entry.{Entry}
use Rattle.book_log.specs.declared.entry.Entry.TheVariants.{Undo}
use Rattle.book_log.specs.declared.refusal.Refusal.TheVariants.{Memory, NoStep}
use Rattle.shared_book.specs.Calls.{IsRefusedFor, MaySee}
use Rattle.shared_book.specs.Views.{PassView}
use Rattle.shared_book.specs.declared.receipt.Receipt.{Receipt}
use Rattle.shared_book.specs.declared.refusal.SharedRefusal.{SharedRefusal}
use Rattle.shared_book.specs.declared.refusal.SharedRefusal.TheVariants.{Refused}
use Rattle.step_workers.specs.declared.outcome.Stopped.{Stopped}
use Rattle.step_workers.specs.declared.outcome.Stopped.TheVariants.{Budget, Idle, Refused as Halted}
use Rattle.step_workers.specs.declared.undoing.Undoer.{Undoer}
use Rattle.step_workers.specs.declared.undoing.Undone.{Undone}

abbrev pub IsUndoing : Entry → Type 0
IsUndoing (Undo name) = Unit {0}
IsUndoing _ = ⊥

abbrev pub AllUndoings : List Receipt → Type 0
AllUndoings [] = Unit {0}
AllUndoings (r ∷ rs) = IsUndoing r.entry × AllUndoings rs

-- at most n receipts more, each of an undoing; as many parts as before, and no less seen
pub record TakesBack (n : ℕ) (had has : PassView) : Type 0 where
  pub more : List Receipt
  pub receipts : has.receipts ≡ had.receipts ++ more
  pub few : length more ≤ n
  pub undoings : AllUndoings more
  pub parts : has.parts ≡ had.parts
  pub seen : had.seen ≤ has.seen

-- as many passes, each of which goes on so, by at most n receipts
abbrev pub AllTakeBack : ℕ → List PassView → List PassView → Type 0
AllTakeBack n [] [] = Unit {0}
AllTakeBack n (p ∷ ps) (q ∷ qs) = TakesBack n p q × AllTakeBack n ps qs
AllTakeBack n _ _ = ⊥

-- why a seat stopped whose pass was this one and is that one now: so many undoings were made; nothing is left at a log that the pass can
-- have seen; or memory was refused, or the pass as foreign
abbrev pub IsStopped : Log → PassView → PassView → Stopped → Type 0
IsStopped begun had has Budget = length has.receipts ≡ length had.receipts + 65536
IsStopped begun had has Idle = (at : Log) × MaySee begun has at × (left_of at ≡ [])
IsStopped begun had has (Halted e) = IsRefusedFor begun has (λ cause. cause ≡ Memory) e

-- each seat stopped so
abbrev pub AllStopped : Log → List PassView → List PassView → List Stopped → Type 0
AllStopped begun [] [] [] = Unit {0}
AllStopped begun (p ∷ ps) (q ∷ qs) (s ∷ ss) = IsStopped begun p q s × AllStopped begun ps qs ss
AllStopped begun _ _ _ = ⊥

abbrev pub tells_none : SharedRefusal → Bool
tells_none (Refused NoStep) = true
tells_none _ = false

-- the seat's reason where a call is refused
abbrev pub stopped_for : SharedRefusal → Stopped
stopped_for e = if tells_none e then Idle else Halted e

-- no ticket was taken by any seat
abbrev pub AllTookNone : {A : Type 0} → List (Vec ℕ A) → Type 0
AllTookNone [] = Unit {0}
AllTookNone (v ∷ vs) = (v.items ≡ []) × AllTookNone vs

module _ {L : Type 0} where
  abbrev pub HasUndone : Log → Undoer L → Undone L → Type 0
  HasUndone begun u d = TakesBack 65536 u.pass d.pass × IsStopped begun u.pass d.pass d.stopped
