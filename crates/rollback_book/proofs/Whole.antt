-- The machines of a legal log are whole.
use Rattle.std.proofs.Common.{Bool, true, false, cond, List, [], sym, subst, Option, Some}
use Rattle.std.specs.Prelude.{ℕ, IfSome}
use Rattle.asl_fields.specs.Fields.{is_text}
use Rattle.asl_tree.specs.Definition.{Definition}
use Rattle.asl_tree.specs.Levels.{IsWellFormedThroughout}
use Rattle.step_history.specs.Levels.{HasWellFormedMachines}
use Rattle.book_log.specs.Legal.{IsAccepted, IsLegal}
use Rattle.book_log.specs.Log.{Log, Remainder, after_entry, remainder, setting_of}
use Rattle.book_log.specs.declared.begin.Begin.{Begin}
use Rattle.book_log.specs.declared.entry.Entry.{Entry}
use Rattle.book_log.specs.declared.entry.Entry.TheVariants.{Define, Start, Step as Stepped, Undo, Rollback, Settle, Hold}
use Rattle.book_log.proofs.LegalRuns.{of_log, of_legal}
use Rattle.book_log.proofs.Standing.{remainder_next}

abbrev AreWellFormed : Remainder → Type 0
AreWellFormed r = (name : List ℕ) → IfSome (r.machines name) IsWellFormedThroughout

whole_with : (b : Bool) (machine : Definition) (o : Option Definition) → IsWellFormedThroughout machine → IfSome o IsWellFormedThroughout → IfSome (cond b (Some machine) o) IsWellFormedThroughout
whole_with true machine o h k = h
whole_with false machine o h k = k

whole_after : (log : Log) (e : Entry) → IsAccepted log e → AreWellFormed (remainder log) → AreWellFormed (after_entry log.begin (remainder log) e)
whole_after log (Define name machine) a h n = whole_with (is_text name n) machine ((remainder log).machines n) a.2 (h n)
whole_after log (Start exec machine input) a h n = h n
whole_after log (Stepped name kind) a h n = h n
whole_after log (Undo name) a h n = h n
whole_after log (Rollback name undone) a h n = h n
whole_after log Settle a h n = h n
whole_after log (Hold name count) a h n = h n

whole_first : (begin : Begin) → IsLegal (of_log begin []) → AreWellFormed (remainder (of_log begin []))
unfolding remainder
whole_first begin legal n = tt

pub legal_whole : (log : Log) → IsLegal log → HasWellFormedMachines (setting_of log)
legal_whole log legal =
    of_legal (λ (s : Log). AreWellFormed (remainder s)) whole_first (λ s e l h a. subst AreWellFormed (sym (remainder_next s e)) (whole_after s e a h)) log legal
