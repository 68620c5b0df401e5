-- What serving has done where it ends: with the whole input answered, or before that.
use Rattle.std.specs.Prelude.{◌≡◌, ℕ, Bool, true, false, List, [], ◌∷◌, ◌++◌, Option, None, Some, option_and_then, Result, Ok, Err, IsSome, codes}
use Rattle.std.specs.Io.KnownBytes.{Appends, Keeps}
use Rattle.book_log.specs.Log.{Log}
use Rattle.command_lines.specs.Grammar as command_view
use Rattle.command_lines.specs.Grammar.{command_of}
use Rattle.operator_line.specs.Lines.{kept_front}
use Rattle.operator_line.specs.Texts.{lines_of, lines_after}
use Rattle.operator_line.specs.Answers.{AnswersLine, AnswersLines}
use Rattle.operator_line.specs.declared.serving.ServeFault.{ServeFault}
use Rattle.operator_line.specs.declared.serving.ServeFault.TheVariants.{Read, Write, Journal, Memory}

-- What was written answers the lines but these, which come later; the book is as after those that were answered.
pub record AnswersUntil (lines : List (Option (List ℕ))) (later : List (Option (List ℕ))) (before : Option Log) (after : Option Log) (old : Option (List ℕ)) (new : Option (List ℕ)) : Type 0 where
  pub front : List (Option (List ℕ))
  pub output : List ℕ
  pub parted : lines ≡ front ++ later
  pub answered : AnswersLines before front output after
  pub appended : Appends old new output

-- What was written answers the lines before some line, of which and of those after it nothing is applied.
pub record AnswersBefore (lines : List (Option (List ℕ))) (before : Option Log) (after : Option Log) (old : Option (List ℕ)) (new : Option (List ℕ)) : Type 0 where
  pub later : List (Option (List ℕ))
  pub until : AnswersUntil lines later before after old new

-- One line is answered, of whose reply only a beginning may be written.
pub record AnswersPart (line : Option (List ℕ)) (before : Option Log) (after : Option Log) (old : Option (List ℕ)) (new : Option (List ℕ)) : Type 0 where
  pub written : List ℕ
  pub unwritten : List ℕ
  pub replied : AnswersLine before line (written ++ unwritten) after
  pub appended : Appends old new written

-- What was written answers the lines up to and with some line, of whose reply only a beginning may be written. The book is
-- as after that line.
pub record AnswersUpTo (lines : List (Option (List ℕ))) (before : Option Log) (after : Option Log) (old : Option (List ℕ)) (new : Option (List ℕ)) : Type 0 where
  pub line : Option (List ℕ)
  pub later : List (Option (List ℕ))
  pub between : Option Log
  pub contents : Option (List ℕ)
  pub until : AnswersUntil lines (line ∷ later) before between old contents
  pub part : AnswersPart line between after contents new

-- what is answered if the steps of a round can't be written down
abbrev pub lost_reply : List ℕ
lost_reply = codes "no 24\n"

-- the line is that of a round
pub record IsWork (line : Option (List ℕ)) : Type 0 where
  pub workers : ℕ
  pub moves : ℕ
  pub said : option_and_then command_of line ≡ Some (command_view.work workers moves)

-- a reply is written, or a beginning of it
pub record WritesPart (reply : List ℕ) (old : Option (List ℕ)) (new : Option (List ℕ)) : Type 0 where
  pub written : List ℕ
  pub unwritten : List ℕ
  pub parted : reply ≡ written ++ unwritten
  pub appended : Appends old new written

-- The steps of a round on a book couldn't be written down. The log of the journal's lines is the one from before it.
pub record FailsLine (line : Option (List ℕ)) (before : Option Log) (after : Option Log) (old : Option (List ℕ)) (new : Option (List ℕ)) : Type 0 where
  pub is_work : IsWork line
  pub has_book : IsSome before
  pub same : after ≡ before
  pub told : WritesPart lost_reply old new

-- What was written answers the lines up to a round's that failed.
pub record AnswersFailed (lines : List (Option (List ℕ))) (before : Option Log) (after : Option Log) (old : Option (List ℕ)) (new : Option (List ℕ)) : Type 0 where
  pub line : Option (List ℕ)
  pub later : List (Option (List ℕ))
  pub between : Option Log
  pub contents : Option (List ℕ)
  pub until : AnswersUntil lines (line ∷ later) before between old contents
  pub fails : FailsLine line between after contents new

-- Where the reader failed: this is left to read, and all lines are answered before the one at hand, which has begun.
pub record AnswersRead (input : List ℕ) (left : Option (List ℕ)) (before : Option Log) (after : Option Log) (old : Option (List ℕ)) (new : Option (List ℕ)) : Type 0 where
  pub begun : List ℕ
  pub rest : List ℕ
  pub left_is : left ≡ Some rest
  pub until : AnswersUntil (lines_of input) (lines_after begun rest) before after old new

-- a session has failed where serving ended so
abbrev pub ends_session : ServeFault → Bool
ends_session Read = false
ends_session Write = false
ends_session Journal = true
ends_session Memory = false

abbrev pub serving_failed : {T : Type 0} → Result T ServeFault → Bool
serving_failed (Ok done) = false
serving_failed (Err fault) = ends_session fault

-- how serving ends
abbrev pub Serves : Result Unit ServeFault → List ℕ → Option Log → Option Log → Option (List ℕ) → Option (List ℕ) → Type 0
Serves (Ok _) input before after old new = AnswersUntil (lines_of input) [] before after old new
Serves (Err Write) input before after old new = AnswersUpTo (lines_of input) before after old new
Serves (Err Read) input before after old new = AnswersBefore (lines_of input) before after old new
Serves (Err Journal) input before after old new = AnswersFailed (lines_of input) before after old new
Serves (Err Memory) input before after old new = AnswersBefore (lines_of input) before after old new

-- of a session that had failed nothing is read or written
pub record IsGone {S : Type 0} (result : Result Unit ServeFault) (before after : S) (unread left old new : Option (List ℕ)) : Type 0 where
  pub answer : result ≡ Err Journal
  pub same : after ≡ before
  pub untouched : left ≡ unread
  pub unwritten : new ≡ old

-- ---- its parts

-- a reply is written, or a beginning of it
abbrev pub WritesReply : Result Unit ServeFault → List ℕ → Option (List ℕ) → Option (List ℕ) → Type 0
WritesReply (Ok _) reply old new = Appends old new reply
WritesReply (Err Write) reply old new = (written : List ℕ) × (unwritten : List ℕ) × (reply ≡ written ++ unwritten) × Appends old new written
WritesReply (Err Read) reply old new = ⊥
WritesReply (Err Journal) reply old new = ⊥
WritesReply (Err Memory) reply old new = ⊥

-- a line is answered
abbrev pub ServesLine : Result Unit ServeFault → Option (List ℕ) → Option Log → Option Log → Option (List ℕ) → Option (List ℕ) → Type 0
ServesLine (Ok _) line before after old new = (reply : List ℕ) × AnswersLine before line reply after × Appends old new reply
ServesLine (Err Write) line before after old new = AnswersPart line before after old new
ServesLine (Err Read) line before after old new = ⊥
ServesLine (Err Journal) line before after old new = FailsLine line before after old new
ServesLine (Err Memory) line before after old new = (after ≡ before) × Keeps old new

-- the last line is, where there is one
abbrev pub ServesLast : Result Unit ServeFault → Option (Option (List ℕ)) → Option Log → Option Log → Option (List ℕ) → Option (List ℕ) → Type 0
ServesLast result (Some line) before after old new = ServesLine result line before after old new
ServesLast (Ok _) None before after old new = (after ≡ before) × Keeps old new
ServesLast (Err e) None before after old new = ⊥

-- The lines that end in a piece of the input are, where the line at hand had begun so; whatever comes after the piece, the
-- lines that are left are those of what the line at hand has now, and of that.
abbrev pub ServesPiece : Result Unit ServeFault → List ℕ → List ℕ → Option (List ℕ) → Option Log → Option Log → Option (List ℕ) → Option (List ℕ) → Type 0
ServesPiece (Ok _) front piece line before after old new =
    (tail : List ℕ) × (line ≡ kept_front tail) × ((more : List ℕ) → AnswersUntil (lines_after front (piece ++ more)) (lines_after tail more) before after old new)
ServesPiece (Err Write) front piece line before after old new = (more : List ℕ) → AnswersUpTo (lines_after front (piece ++ more)) before after old new
ServesPiece (Err Read) front piece line before after old new = ⊥
ServesPiece (Err Journal) front piece line before after old new = (more : List ℕ) → AnswersFailed (lines_after front (piece ++ more)) before after old new
ServesPiece (Err Memory) front piece line before after old new = (more : List ℕ) → AnswersBefore (lines_after front (piece ++ more)) before after old new

-- The lines that end in what the reader gives are. It gave all there was where there is no more.
abbrev pub ServesRead : Result Bool ServeFault → List ℕ → List ℕ → Option (List ℕ) → Option (List ℕ) → Option Log → Option Log → Option (List ℕ) → Option (List ℕ) → Type 0
ServesRead (Ok true) front text left line before after old new =
    (tail : List ℕ) × (rest : List ℕ) × (left ≡ Some rest) × (line ≡ kept_front tail) × AnswersUntil (lines_after front text) (lines_after tail rest) before after old new
ServesRead (Ok false) front text left line before after old new = (text ≡ []) × (left ≡ Some []) × (line ≡ kept_front front) × (after ≡ before) × Keeps old new
ServesRead (Err Write) front text left line before after old new = AnswersUpTo (lines_after front text) before after old new
ServesRead (Err Read) front text left line before after old new = (left ≡ Some text) × (after ≡ before) × Keeps old new
ServesRead (Err Journal) front text left line before after old new = AnswersFailed (lines_after front text) before after old new
ServesRead (Err Memory) front text left line before after old new = AnswersBefore (lines_after front text) before after old new
