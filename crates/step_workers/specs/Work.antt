-- What a round of workers promises of the passes, and of the tickets that were taken.
use Rattle.std.specs.Prelude.{◌≡◌, ℕ, ◌+◌, ◌≤◌, List, [], ◌∷◌, ◌++◌, length}
use Rattle.std.specs.declared.vec.Vec.{Vec}
use Rattle.book_log.specs.declared.entry.Entry.{Entry}
use Rattle.book_log.specs.declared.entry.Entry.TheVariants.{Step as Stepped}
use Rattle.std.specs.declared.alloc.Global.{Global}
use Rattle.std.specs.declared.boxed.Box.{Box}
use Rattle.book_events.specs.declared.ticket.Ticket.{Ticket}
use Rattle.shared_book.specs.Views.{PassView, first_half, second_half}
use Rattle.shared_book.specs.declared.receipt.Receipt.{Receipt}
use Rattle.slip_queue.specs.Slips.{IsGiver, given_of, parts_of, taken_of, times}
use Rattle.slip_queue.specs.declared.slips.Slips.{Slips}
use Rattle.slip_queue.specs.declared.giver.Giver.{Giver}
use Rattle.step_workers.specs.Shares.{shares_of}

abbrev pub IsStepEntry : Entry → Type 0
IsStepEntry (Stepped name kind) = Unit {0}
IsStepEntry _ = ⊥

abbrev pub AllSteps : List Receipt → Type 0
AllSteps [] = Unit {0}
AllSteps (r ∷ rs) = IsStepEntry r.entry × AllSteps rs

-- at most n receipts more, each of a step; as many parts as before, and no less seen
pub record PassGoesOn (n : ℕ) (had has : PassView) : Type 0 where
  pub more : List Receipt
  pub receipts : has.receipts ≡ had.receipts ++ more
  pub few : length more ≤ n
  pub steps : AllSteps more
  pub parts : has.parts ≡ had.parts
  pub seen : had.seen ≤ has.seen

-- each pass goes on, by as many receipts at most
abbrev pub EachGoesOn : List ℕ → List PassView → List PassView → Type 0
EachGoesOn [] [] [] = Unit {0}
EachGoesOn (n ∷ ns) (p ∷ ps) (q ∷ qs) = PassGoesOn n p q × EachGoesOn ns ps qs
EachGoesOn _ _ _ = ⊥

-- the first pass gives half of its parts to a further one, of the one who hands out the tickets
abbrev pub with_giver : List PassView → List PassView
with_giver [] = []
with_giver (p ∷ ps) = first_half p ∷ (ps ++ second_half p ∷ [])

-- each pass goes on, by at most its share of the budget; the one behind them by none
abbrev pub AllGoOn : ℕ → List PassView → List PassView → Type 0
AllGoOn budget ps qs = EachGoesOn (shares_of budget (length ps) ++ 0 ∷ []) (with_giver ps) qs

-- how many tickets a seat took
abbrev pub count_of : {A : Type 0} → Vec ℕ A → ℕ
count_of v = length v.items

-- as many numbers, each at most the other list's
abbrev pub EachAtMost : List ℕ → List ℕ → Type 0
EachAtMost [] [] = Unit {0}
EachAtMost (n ∷ ns) (m ∷ ms) = (n ≤ m) × EachAtMost ns ms
EachAtMost _ _ = ⊥

-- each number that was written down was taken, as often as it was written down
abbrev pub AreWrittenTaken : List ℕ → List ℕ → Type 0
AreWrittenTaken written taken = (x : ℕ) → times x written ≤ times x taken

abbrev pub all_taken : {A : Type 0} → List (Vec ℕ A) → List ℕ
all_taken [] = []
all_taken (v ∷ vs) = v.items ++ all_taken vs

-- a ticket as it lies in the queue
abbrev pub BoxedTicket : Type 0
BoxedTicket = Box Ticket Global

-- it gives into this queue still, put at most n slips more, and knows as much of what was taken
pub record KeepsGiver (n : ℕ) (q : Slips BoxedTicket) (had has : Giver BoxedTicket) : Type 0 where
  pub parts : parts_of has ≡ parts_of had
  pub taken : taken_of has ≡ taken_of had
  pub few : given_of has ≤ given_of had + n
  pub giver : IsGiver q has
