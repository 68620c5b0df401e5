-- Laws over what lines are answered, each the contract of a function of the crate.
use Rattle.std.specs.Prelude.{◌≡◌, ℕ, Bool, true, List, Option, take, codes}
use Rattle.asl_fields.specs.Fields.{is_text}
use Rattle.book_log.specs.Log.{Log}
use Rattle.operator_line.specs.Answers.{AnswersLine}

-- a reply that begins so is a refusal
abbrev pub is_refusal : List ℕ → Bool
is_refusal reply = is_text (take 3 reply) (codes "no ")

-- a line that is refused leaves the book as it was
abbrev pub RefusedLinesChangeNothing : Type 0
RefusedLinesChangeNothing = (before after : Option Log) (line : Option (List ℕ)) (reply : List ℕ) → AnswersLine before line reply after → is_refusal reply ≡ true → after ≡ before
