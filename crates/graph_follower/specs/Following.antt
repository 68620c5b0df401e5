-- What a follower's lines do to the book that answers: a fed line is given to it by itself, and nothing else changes it.
use Rattle.std.specs.Prelude.{◌≡◌, ◌⊎◌, ℕ, List, ◌++◌, [], Option, Some, Result, codes}
use Rattle.operator_line.specs.Log.{Log}
use Rattle.threaded_book.specs.Book.{BookView}
use Rattle.operator_line.specs.Serving.{Serves}
use Rattle.operator_line.specs.Sessions.{Sitting, session_log}
use Rattle.operator_line.specs.declared.serving.ServeFault.{ServeFault}

-- the log of a session's book
abbrev pub book_log_in : {S : Type 0} → Sitting BookView S → Option Log
book_log_in session = session_log (λ b. b.log) session

-- the book is as `serve` leaves it that reads this line alone
pub record IsGiven {S : Type 0} (line : List ℕ) (old new : Sitting BookView S) : Type 0 where
  pub outcome : Result Unit ServeFault
  pub reply : List ℕ
  pub serves : Serves outcome line (book_log_in old) (book_log_in new) (Some []) (Some reply)

-- a line that is fed is given so, or nothing changes
abbrev pub Feeds : {S : Type 0} → List ℕ → Sitting BookView S → Sitting BookView S → Type 0
Feeds line old new = (new ≡ old) ⊎ IsGiven line old new

-- of the lines of an input those behind an equals sign and a blank are fed, and nothing else changes anything
abbrev pub FollowsFedLine : {S : Type 0} → List ℕ → Sitting BookView S → Sitting BookView S → Type 0
FollowsFedLine line old new = (new ≡ old) ⊎ ((fed : List ℕ) × (line ≡ codes "= " ++ fed) × IsGiven fed old new)
