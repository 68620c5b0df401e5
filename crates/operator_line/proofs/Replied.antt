-- What a book answers, as it is told.
use Rattle.std.proofs.Common.{◌≡◌, ℕ, List, [], ◌∷◌, map, true, Option, None, Some, Ok, Err, inl, inr, refl, sym, ap, ◌∙◌, subst}
use Rattle.std.specs.Prelude.{◌⊎◌, Result, IfSome, OnOk}
use Rattle.std.specs.declared.alloc.AllocError.{AllocError}
use Rattle.std.proofs.lemmas.Option.{same_Some}
use Rattle.serde_json.specs.Data as source
use Rattle.json_tree.specs.View.{data_of}
use Rattle.json_tree.specs.declared.tree.Json.{Json}
use Rattle.step_names.specs.Thread.{Thread}
use Rattle.step_names.specs.declared.step.StepName.{StepName}
use Rattle.step_names.specs.Written.{step_text}
use Rattle.journaled_book.specs.Steps.{Step, name_of}
use Rattle.journaled_book.specs.StepRecord.{StepRecord}
use Rattle.book_log.specs.Answers.{HoldLacks, SettleLacks, StepLacks, hold_answer, plan_answer, remains, settle_answer, start_answer, step_answer, undo_answer}
use Rattle.book_log.specs.Legal.{IsAccepted}
use Rattle.book_log.specs.Log.{Log, appended}
use Rattle.book_log.specs.declared.entry.Entry.{Entry}
use Rattle.book_log.specs.declared.entry.Entry.TheVariants.{Start}
use Rattle.book_log.specs.declared.refusal.Refusal.{Refusal}
use Rattle.book_log.specs.declared.refusal.Refusal.TheVariants.{Memory}
use Rattle.book_log.specs.declared.moved.Moved.{Moved}
use Rattle.command_lines.specs.Grammar as grammar
use Rattle.command_lines.specs.Grammar.{CommandView, command_of}
use Rattle.journaled_book.specs.Change.{Change}
use Rattle.journaled_book.specs.Change.TheVariants as change
use Rattle.journaled_book.specs.Journaled.{log_of}
use Rattle.journaled_book.specs.Lines.{IsStartLine, SaysChange}
use Rattle.journaled_book.specs.Answered.{IsCommandAnswered}
use Rattle.journaled_book.specs.Planned.{OrMemory}
use Rattle.operator_line.specs.Answers.{AnswersAppended, AnswersClosed, AnswersDefine, AnswersInput, AnswersOpen, AnswersStarted, AnswersUnchanged, RepliesHold, RepliesRollback, RepliesSettle, RepliesStep, RepliesUndo}
use Rattle.operator_line.proofs.Json.{json-read}
use Rattle.reply_lines.specs.Replies.{entry_reply, no_table, refusal_reply, refused}

-- what holds of a book's log holds of this one
pub in_log : {B : Type 0} (log_in : B → Log) (P : Log → Type 0) (book : Option B) (log : Log) → log_of log_in book ≡ Some log → IfSome book (λ b. P (log_in b)) → P log
in_log log_in P None log is h = cc
in_log log_in P (Some b) log is h = let same : log_in b ≡ log = cc in subst P same h

-- ---- a command of one entry

module _ (line : List ℕ) (command : CommandView) (is : command_of line ≡ Some command) where
  one_command : (said : CommandView) → command_of line ≡ Some said → said ≡ command
  one_command said says = same_Some said command (sym says ∙ is)

  -- without a table
  pub answers_no_table : (what : Change) (text : List ℕ) (after : Option Log) → SaysChange what line → AnswersUnchanged (refused no_table) None text after → AnswersClosed command text after
  answers_no_table (change.Define name d) text after says told = subst (λ (c : CommandView). AnswersClosed c text after) (one_command (grammar.define name.now says.0) says.1) told
  answers_no_table (change.Start exec machine input) text after says told = subst (λ (c : CommandView). AnswersClosed c text after) (one_command (grammar.start exec.now machine.now says.json) says.is_start) told
  answers_no_table (change.Step thread) text after says told = subst (λ (c : CommandView). AnswersClosed c text after) (one_command (grammar.step thread.now) says) told
  answers_no_table (change.Undo step) text after says told = subst (λ (c : CommandView). AnswersClosed c text after) (one_command (grammar.undo step.now) says) told
  answers_no_table (change.Rollback step) text after says told = subst (λ (c : CommandView). AnswersClosed c text after) (one_command (grammar.rollback step.now) says) told
  answers_no_table change.Settle text after says told = subst (λ (c : CommandView). AnswersClosed c text after) (one_command grammar.settle says) told
  answers_no_table (change.Hold step) text after says told = subst (λ (c : CommandView). AnswersClosed c text after) (one_command (grammar.hold step.now) says) told

  module _ (log : Log) (text : List ℕ) (after : Option Log) where
    open_by : (said : CommandView) → command_of line ≡ Some said → AnswersOpen log said text after → AnswersOpen log command text after
    open_by said says answers = subst (λ (c : CommandView). AnswersOpen log c text after) (one_command said says) answers

    -- a start, whose input is read
    started_by : (exec : Thread) (machine : List ℕ) (input : Json) → IsStartLine line exec machine input → AnswersStarted log (Start exec machine input) (start_answer log exec machine) text after → AnswersOpen log command text after
    started_by exec machine input says told =
        open_by (grammar.start exec machine says.json) says.is_start
        (json-read says.json (data_of input) (λ told'. AnswersUnchanged told' (Some log) text after) (λ d. AnswersInput log exec machine d text after) says.is_read (record { input = input; is_read = refl; told = told }))

    -- its entry's reply is told, or the journal refuses its line
    abbrev IsTold : Entry → Type 0
    IsTold entry = AnswersAppended (entry_reply entry) (Some (appended log entry)) (Some log) text after

    pub answers_entered : (what : Change) (entry : Entry) → IsCommandAnswered log what (Ok entry) → IsAccepted log entry → SaysChange what line → IsTold entry → AnswersOpen log command text after
    answers_entered (change.Define name d) entry h ok says told =
        open_by (grammar.define name.now says.0) says.1
        (subst (λ (o : Option source.Data). AnswersDefine log name.now o text after) (sym says.2)
        (inl (record { machine = h.0; is_one = h.1; is_accepted = subst (IsAccepted log) h.2 ok; told = subst IsTold h.2 told })))
    answers_entered (change.Start exec machine input) entry h ok says told =
        started_by exec.now machine.now input says
        (subst (λ (r : Result StepName Refusal). AnswersStarted log (Start exec.now machine.now input) r text after) (sym h.0) (subst IsTold h.1 told))
    answers_entered (change.Step thread) entry h ok says told =
        open_by (grammar.step thread.now) says (subst (λ (r : Result Moved Refusal). RepliesStep log r text after) (sym h.1) (subst IsTold h.2 told))
    answers_entered (change.Undo step) entry h ok says told =
        open_by (grammar.undo step.now) says (subst (λ (r : Result StepName Refusal). RepliesUndo log step.now r text after) (sym h.0) (subst IsTold h.1 told))
    answers_entered (change.Rollback step) entry h ok says told =
        open_by (grammar.rollback step.now) says (subst (λ (r : Result (List StepName) Refusal). RepliesRollback log step.now r text after) (sym h.1) (subst IsTold h.2 told))
    answers_entered change.Settle entry h ok says told =
        open_by grammar.settle says (subst (λ (r : Result (Unit {0}) Refusal). RepliesSettle log r text after) (sym h.0) (subst IsTold h.1 told))
    answers_entered (change.Hold step) entry h ok says told =
        open_by (grammar.hold step.now) says (subst (λ (r : Result ℕ Refusal). RepliesHold log step.now r text after) (sym h.1) (subst IsTold h.2 told))

    -- it is refused as the book refuses it, but not if memory is wanting
    module _ (e : Refusal) (kept : e ≡ Memory → ⊥) (told : AnswersUnchanged (refusal_reply e) (Some log) text after) where
      refused_as : {T : Type 0} (Answer : Result T Refusal → Type 0) (answer : Result T Refusal) → Answer (Err e) → OrMemory answer e → Answer answer
      refused_as Answer (Ok x) t h = absurd (kept h)
      refused_as Answer (Err f) t h = subst (λ (x : Refusal). Answer (Err x)) h t

      refused_or : {T : Type 0} (lacks : Type 0) (Answer : Result T Refusal → Type 0) (answer : Result T Refusal) → Answer (Err e) → OrMemory answer e ⊎ ((e ≡ Memory) × lacks) → Answer answer
      refused_or lacks Answer answer t (inl h) = refused_as Answer answer t h
      refused_or lacks Answer answer t (inr h) = absurd (kept h.0)

      undo_refused : (name : StepName) → ((e ≡ Memory) × (remains log name ≡ true)) ⊎ (undo_answer log name ≡ Err e) → RepliesUndo log name (undo_answer log name) text after
      undo_refused name (inl h) = absurd (kept h.0)
      undo_refused name (inr h) = subst (λ (r : Result StepName Refusal). RepliesUndo log name r text after) (sym h) told

      pub answers_refused : (what : Change) → IsCommandAnswered log what (Err e) → SaysChange what line → AnswersOpen log command text after
      answers_refused (change.Define name d) h says =
          open_by (grammar.define name.now says.0) says.1
          (subst (λ (o : Option source.Data). AnswersDefine log name.now o text after) (sym says.2) (inr (record { refusal = e; stands = h; told = told })))
      answers_refused (change.Start exec machine input) h says =
          started_by exec.now machine.now input says
          (refused_as (λ r. AnswersStarted log (Start exec.now machine.now input) r text after) (start_answer log exec.now machine.now) told h)
      answers_refused (change.Step thread) h says =
          open_by (grammar.step thread.now) says (refused_or (StepLacks log thread.now) (λ r. RepliesStep log r text after) (step_answer log thread.now) told h)
      answers_refused (change.Undo step) h says = open_by (grammar.undo step.now) says (undo_refused step.now h)
      answers_refused (change.Rollback step) h says =
          open_by (grammar.rollback step.now) says (refused_as (λ r. RepliesRollback log step.now r text after) (plan_answer log step.now) told h)
      answers_refused change.Settle h says =
          open_by grammar.settle says (refused_or (SettleLacks log) (λ r. RepliesSettle log r text after) (settle_answer log) told h)
      answers_refused (change.Hold step) h says =
          open_by (grammar.hold step.now) says (refused_or (HoldLacks log step.now) (λ r. RepliesHold log step.now r text after) (hold_answer log step.now) told h)

-- memory that is refused isn't told
pub refused_told : {U : Type 0} (e : Refusal) (r : Result U AllocError) (Told Answers : Type 0) → ((e ≡ Memory → ⊥) → Told → Answers) → (e ≡ Memory → OnOk r ⊥) → OnOk r Told → OnOk r Answers
refused_told e (Ok x) Told Answers answers memory told = answers memory told
refused_told e (Err f) Told Answers answers memory told = tt

-- ---- a history

texts-mapped : {A : Type 0} → (f : A → StepName) (xs : List A) → map (λ (x : A). step_text (f x)) xs ≡ map step_text (map f xs)
texts-mapped f [] = refl
texts-mapped f (x ∷ xs) = ap (λ l. step_text (f x) ∷ l) (texts-mapped f xs)

-- steps of the same names are written in the same way
pub texts-named : (records : List StepRecord) (steps : List Step) → map (λ (r : StepRecord). r.fact.name) records ≡ map name_of steps
    → map (λ (r : StepRecord). step_text r.fact.name) records ≡ map (λ (s : Step). step_text (name_of s)) steps
texts-named records steps h = texts-mapped (λ (r : StepRecord). r.fact.name) records ∙ ap (map step_text) h ∙ sym (texts-mapped name_of steps)
