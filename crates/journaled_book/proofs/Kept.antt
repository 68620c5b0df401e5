-- What stays true of a journal and its book.
use Rattle.std.proofs.Common.{◌≡◌, ℕ, List, [], ◌∷◌, ◌++◌, Option, None, Some, Result, Ok, Err, IsTrue, OnOk, OnErr, refl, sym, subst, arith}
use Rattle.sqlite.specs.Effect.{Database}
use Rattle.sqlite.specs.State.{State, HasCleanDisk, Survives}
use Rattle.sqlite.specs.Tree.{Trees}
use Rattle.book_log.specs.Log.{Log, appended}
use Rattle.book_log.specs.declared.begin.Begin.{Begin}
use Rattle.book_log.specs.declared.entry.Entry.{Entry}
use Rattle.book_journal.specs.Entries.{entries, HoldLines}
use Rattle.book_journal.specs.Kept.{IsSame, MayAdd}
use Rattle.journaled_book.specs.Changes.{Appends, AppendsAll}
use Rattle.journaled_book.specs.Journaled.{GoesOnBy, HasLinesOf, IsJournalOf}
use Rattle.journaled_book.specs.Lines.{AreLinesOf, IsBeginLine, IsLineOf}
use Rattle.journaled_book.proofs.Given.{first_line, gone_on, more_lines}

clean_before : (old new : State) (P : Trees → Type 0) → Survives old new P → HasCleanDisk new → HasCleanDisk old
clean_before old new P survives clean = omega (arith, survives.clean, clean)

-- the same rows, where the journal is the same
pub same_lines : (old new : State) (log : Option Log) → IsSame old new → IsTrue new.is_open → (IsTrue old.is_open → HasLinesOf old log) → HasLinesOf new log
same_lines old new log same up held =
    let s = same up in
    let h = held s.0 in
    (h.0, subst (λ (d : Database). HoldLines (entries d.trees) h.0) (sym s.1) h.1, h.2)

-- ---- after an append

module _ {T E : Type 0} (old new : State) (line : List ℕ) where
  -- it was refused
  pub refused_kept : (result : Result T E) (e : E) (log : Option Log) → result ≡ Err e → IsJournalOf old log → Appends old new line result → IsJournalOf new log
  refused_kept (Ok x) e log is h a = cc
  refused_kept (Err x) e log is h a = record {
    lines = λ clean up. same_lines old new log (a.err clean) up (h.lines (clean_before old new (MayAdd old (line ∷ [])) a.survives clean));
    rest = a.at_rest;
  }

  -- and the lines from before are those of a log, which the line makes another
  added_kept : (result : Result T E) (x : T) (before after : Option Log) → result ≡ Ok x → IsJournalOf old before
      → ((lines : List (List ℕ)) → AreLinesOf lines before → AreLinesOf (lines ++ line ∷ []) after) → Appends old new line result → IsJournalOf new after
  added_kept (Err e) x before after is h more a = cc
  added_kept (Ok y) x before after is h more a = record {
    lines = λ clean up.
        let it = a.ok clean in
        let held = h.lines (clean_before old new (MayAdd old (line ∷ [])) a.survives clean) it.was_open in
        (held.0 ++ line ∷ [], it.lines held.0 held.1, more held.0 held.2);
    rest = a.at_rest;
  }

  pub begun_kept : (result : Result T E) (x : T) (begin : Begin) (after : Option Log) → result ≡ Ok x → IsJournalOf old None → IsBeginLine line begin → after ≡ Some (record { begin = begin; entries = [] })
      → Appends old new line result → IsJournalOf new after
  begun_kept result x begin after is h says same a =
      subst (IsJournalOf new) (sym same) (added_kept result x None (Some (record { begin = begin; entries = [] })) is h (λ lines are. first_line lines line begin are says) a)

  pub entered_kept : (result : Result T E) (x : T) (log after : Log) (entry : Entry) → result ≡ Ok x → IsJournalOf old (Some log) → IsLineOf line entry → after ≡ appended log entry
      → Appends old new line result → IsJournalOf new (Some after)
  entered_kept result x log after entry is h says same a =
      subst (λ (s : Log). IsJournalOf new (Some s)) (sym same) (added_kept result x (Some log) (Some (appended log entry)) is h (λ lines are. more_lines lines log line entry are says) a)

  -- the book was changed, or the append was refused
  pub changed_kept : {B : Type 0} (log : B → Log) (result : Result T E) (before after : B) (entry : Entry) → IsJournalOf old (Some (log before)) → IsLineOf line entry → OnOk result (log after ≡ appended (log before) entry)
      → OnErr result (after ≡ before) → Appends old new line result → IsJournalOf new (Some (log after))
  changed_kept log (Ok x) before after entry h says ok err a = entered_kept (Ok x) x (log before) (log after) entry refl h says ok a
  changed_kept log (Err e) before after entry h says ok err a = subst (λ b. IsJournalOf new (Some (log b))) (sym err) (refused_kept (Err e) e (Some (log before)) refl h a)

  -- the same, with another answer
  pub replayed : {U : Type 0} → (result : Result T E) (x : T) (y : U) → result ≡ Ok x → Appends old new line result → Appends {T = U} {E = E} old new line (Ok y)
  replayed (Ok z) x y is a = record { ok = a.ok; err = λ clean. tt; crash = a.crash; survives = a.survives; at_rest = a.at_rest }
  replayed (Err e) x y is a = cc

-- ---- after an append of lines

module _ {T E : Type 0} (old new : State) (more : List (List ℕ)) where
  pub all_refused : (e : E) (log : Option Log) → IsJournalOf old log → AppendsAll {T = T} {E = E} old new more (Err e) → IsJournalOf new log
  all_refused e log h a = record {
    lines = λ clean up. same_lines old new log (a.err clean) up (h.lines (clean_before old new (MayAdd old more) a.survives clean));
    rest = a.at_rest;
  }

  pub all_added : (x : T) (before : Option Log) (after : Log) → IsJournalOf old before → GoesOnBy more before after → AppendsAll {T = T} {E = E} old new more (Ok x) → IsJournalOf new (Some after)
  all_added x before after h goes a = record {
    lines = λ clean up.
        let it = a.ok clean in
        let held = h.lines (clean_before old new (MayAdd old more) a.survives clean) it.was_open in
        (held.0 ++ more, it.lines held.0 held.1, gone_on held.0 more before after held.2 goes);
    rest = a.at_rest;
  }
