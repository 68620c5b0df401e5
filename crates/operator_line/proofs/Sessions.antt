-- Sessions with a book, and without.
use Rattle.std.proofs.Common.{◌≡◌, ℕ, List, [], ◌∷◌, Bool, true, false, if◌then◌else◌, Option, None, Some, Ok, Err, OnOk, OnErr, inr, refl, sym, ap, subst, arith}
use Rattle.std.specs.Prelude.{Result, is_some, IfOk, IfSome, IsSome}
use Rattle.std.specs.Str.{is_utf8}
use Rattle.std.specs.declared.alloc.AllocError.{AllocError}
use Rattle.book_log.specs.Log.{Log}
use Rattle.command_lines.specs.Grammar.{CommandView, command_of, text_command, command_view}
use Rattle.command_lines.specs.declared.command.Command.{Command}
use Rattle.command_lines.specs.declared.command.Command.TheVariants.{Table, Define, Start, Step, Undo, Plan, Rollback, Settle, Hold, Drive, Work, Show, Items, History, Held}
use Rattle.sqlite.specs.State.{State, HasCleanDisk}
use Rattle.journaled_book.specs.Changes.{AppendsAll}
use Rattle.journaled_book.specs.Journaled.{log_of}
use Rattle.reply_lines.specs.Replies.{refused}
use Rattle.operator_line.specs.Answers.{AnswersOpen, AnswersClosed, AnswersCommand, AnswersView}
use Rattle.operator_line.specs.Answering.{AnswersBy, AnswersTextBy, is_work}
use Rattle.operator_line.specs.Sessions.{KeepsLine, KeepsOne, KeepsRead, WasClean}
use Rattle.operator_line.specs.declared.session.Answered.{Answered}
use Rattle.operator_line.specs.declared.session.Answered.TheVariants.{Told, Lost}

pub answers_open : {B U : Type 0} (log : B → Log) (book : Option B) (command : CommandView) (r : Result U AllocError) (text : List ℕ) (after : Option Log) → is_some book ≡ true
    → ((b : B) → book ≡ Some b → OnOk r (AnswersOpen (log b) command text after)) → OnOk r (AnswersCommand (log_of log book) command text after)
answers_open log None command r text after is h = cc
answers_open log (Some b) command r text after is h = h b refl

-- where a table is given, the book that there is then
pub answers_begun : {B U : Type 0} (log : B → Log) (book : Option B) (command : CommandView) (r : Result U AllocError) (text : List ℕ) (after : Option Log) → is_some book ≡ false
    → OnOk r (AnswersClosed command text after) → OnOk r (AnswersCommand (log_of log book) command text after)
answers_begun log None command r text after is h = h
answers_begun log (Some b) command r text after is h = cc

pub answers_closed : {B U : Type 0} (log : B → Log) (book : Option B) (command : CommandView) (r : Result U AllocError) (text : List ℕ) → is_some book ≡ false
    → OnOk r (AnswersClosed command text None) → OnOk r (AnswersCommand (log_of log book) command text (log_of log book))
answers_closed log None command r text is h = h
answers_closed log (Some b) command r text is h = cc

pub some_log : {B : Type 0} (log_in : B → Log) (book : Option B) → IsSome book → (log : Log) × (log_of log_in book ≡ Some log)
some_log log_in None some = cc
some_log log_in (Some b) some = (log_in b, refl)

-- a book stays where its log does
pub some_kept : {B : Type 0} (log : B → Log) (old new : Option B) → IsSome old → log_of log new ≡ log_of log old → IsSome new
some_kept log None new some same = cc
some_kept log (Some b) None some same = cc
some_kept log (Some b) (Some a) some same = refl

pub if_log : (P : Log → Type 0) (o : Option Log) → ((s : Log) → o ≡ Some s → P s) → IfSome o P
if_log P None h = tt
if_log P (Some s) h = h s refl

pub on_err-from : {T E : Type 0} → (r : Result T E) (P : Type 0) → P → OnErr r P
on_err-from (Ok x) P p = tt
on_err-from (Err e) P p = p

-- a line that is no text
pub no_text : (line : List ℕ) → is_utf8 line ≡ false → command_of line ≡ None
no_text line wrong = ap (λ (u : Bool). if u then text_command line else None) wrong

-- ---- lines that are none

pub line_refused : (r : Result Answered AllocError) (said : Option CommandView) (text : List ℕ) (before : Option Log) → said ≡ None → IfOk r (λ a. (a ≡ Told) × (text ≡ refused 20))
    → IfOk r (λ a. AnswersTextBy a before said text before)
line_refused (Ok Told) said text before none h = subst (λ (o : Option CommandView). AnswersView before o text before) (sym none) (h.1, refl)
line_refused (Ok Lost) said text before none h = let wrong = h.0 in cc
line_refused (Err e) said text before none h = tt

pub long_refused : (r : Result Answered AllocError) (text : List ℕ) (before : Option Log) → IfOk r (λ a. (a ≡ Told) × (text ≡ refused 20)) → IfOk r (λ a. AnswersBy a before None text before)
long_refused (Ok Told) text before h = inr (h.1, refl)
long_refused (Ok Lost) text before h = let wrong = h.0 in cc
long_refused (Err e) text before h = tt

pub bytes_answered : (r : Result Answered AllocError) (bytes text : List ℕ) (before after : Option Log) → (bytes ≡ [] → ⊥) → IfOk r (λ a. AnswersTextBy a before (command_of bytes) text after)
    → IfOk r (λ a. AnswersBy a before (Some bytes) text after)
bytes_answered r [] text before after some h = absurd (some refl)
bytes_answered (Ok Told) (b ∷ bytes) text before after some h = inr h
bytes_answered (Ok Lost) (b ∷ bytes) text before after some h = (record { workers = h.0.0; moves = h.0.1; said = h.0.2 }, h.1, h.2)
bytes_answered (Err e) (b ∷ bytes) text before after some h = tt

-- any command but a round's
pub no_round : (c : Command) → ((workers moves : ℕ) → c ≡ Work workers moves → ⊥) → is_work (command_view c) ≡ false
no_round (Table name schema items) apart = refl
no_round (Define name definition) apart = refl
no_round (Start exec machine input) apart = refl
no_round (Step thread) apart = refl
no_round (Undo step) apart = refl
no_round (Plan step) apart = refl
no_round (Rollback step) apart = refl
no_round Settle apart = refl
no_round (Hold step) apart = refl
no_round (Drive count) apart = refl
no_round (Work workers moves) apart = absurd (apart workers moves refl)
no_round (Show thread) apart = refl
no_round Items apart = refl
no_round History apart = refl
no_round Held apart = refl

-- ---- the line of a command

-- a disk that is clean after lines were appended, or refused, was so before
pub appended_clean : {T E : Type 0} → (old new : State) (more : List (List ℕ)) (r : Result T E) → AppendsAll old new more r → HasCleanDisk new → HasCleanDisk old
appended_clean old new more r appended clean = let less = appended.survives.clean in omega (arith, less, clean)

-- what a line kept tells of the disk
pub kept_clean : {S : Type 0} → (shown : S → State) (line : List ℕ) (old new : S) → KeepsLine shown line old new → WasClean shown old new
kept_clean shown line old new kept = kept.clean

pub kept_one : {S : Type 0} → (shown : S → State) (line : Option (List ℕ)) (old new : S) → KeepsRead shown line old new → WasClean shown old new → KeepsOne shown line old new
kept_one shown line old new kept clean = record { read = kept; clean = clean }
