-- The book that lines give, one line after another.
use Rattle.std.proofs.Common.{◌≡◌, ℕ, ◌+◌, ◌<◌, List, [], ◌∷◌, ◌++◌, length, map, take, drop, get_or, Option, None, Some, Result, Ok, Err, refl, sym, ap, subst, ◌∙◌, arith}
use Rattle.std.specs.Prelude.{IsOk}
use Rattle.std.proofs.lemmas.List.{length-map, length-take-le, take_more, drop_more, map-append, take-append-drop}
use Rattle.attr_values.specs.declared.fault.ItemFault.{ItemFault}
use Rattle.item_store.specs.Table.{Table}
use Rattle.book_log.specs.Beginning.{begun_table}
use Rattle.book_log.specs.Legal.{IsLegal}
use Rattle.book_log.specs.Log.{Log, appended}
use Rattle.book_log.specs.declared.begin.Begin.{Begin}
use Rattle.book_log.specs.declared.entry.Entry.{Entry}
use Rattle.book_log.proofs.LegalRuns.{accepted_is_legal}
use Rattle.journaled_book.specs.Lines.{IsBeginLine, IsLineOf, AreEntryLines, AreLinesOf, IsDamaged, Follows}
use Rattle.journaled_book.specs.Journaled.{GoesOnBy}
use Rattle.journaled_book.specs.Reading.{fault_at}
use Rattle.journaled_book.specs.declared.fault.LineFault.{LineFault}
use Rattle.journaled_book.specs.declared.fault.LineFault.TheVariants as line_fault
use Rattle.journaled_book.specs.declared.fault.OpenFault.TheVariants.{Damaged}
use Rattle.journaled_book.specs.Opening.{Give, HasDamageAt}

-- ---- the lines

more_entry_lines : (lines : List (List ℕ)) (entries : List Entry) (line : List ℕ) (entry : Entry) → AreEntryLines lines entries → IsLineOf line entry → AreEntryLines (lines ++ line ∷ []) (entries ++ entry ∷ [])
more_entry_lines [] [] line entry h is = (is, tt)
more_entry_lines [] (x ∷ entries) line entry h is = absurd h
more_entry_lines (l ∷ lines) [] line entry h is = absurd h
more_entry_lines (l ∷ lines) (x ∷ entries) line entry h is = (h.0, more_entry_lines lines entries line entry h.1 is)

pub both_entry_lines : (lines more : List (List ℕ)) (entries es : List Entry) → AreEntryLines lines entries → AreEntryLines more es → AreEntryLines (lines ++ more) (entries ++ es)
both_entry_lines [] more [] es h k = k
both_entry_lines [] more (x ∷ entries) es h k = absurd h
both_entry_lines (l ∷ lines) more [] es h k = absurd h
both_entry_lines (l ∷ lines) more (x ∷ entries) es h k = (h.0, both_entry_lines lines more entries es h.1 k)

-- the lines of a log that went on
pub gone_on : (lines more : List (List ℕ)) (before : Option Log) (after : Log) → AreLinesOf lines before → GoesOnBy more before after → AreLinesOf (lines ++ more) (Some after)
gone_on lines more None after h goes = absurd goes
gone_on [] more (Some before) after h goes = absurd h
gone_on (l ∷ lines) more (Some before) after h goes =
    subst (λ (s : Log). AreLinesOf (l ∷ (lines ++ more)) (Some s)) (sym goes.1) (h.0, both_entry_lines lines more before.entries goes.0 h.1 goes.2)

pub more_lines : (lines : List (List ℕ)) (log : Log) (line : List ℕ) (entry : Entry) → AreLinesOf lines (Some log) → IsLineOf line entry → AreLinesOf (lines ++ line ∷ []) (Some (appended log entry))
more_lines [] log line entry h is = absurd h
more_lines (l ∷ lines) log line entry h is = (h.0, more_entry_lines lines log.entries line entry h.1 is)

pub first_line : (lines : List (List ℕ)) (line : List ℕ) (begin : Begin) → AreLinesOf lines None → IsBeginLine line begin → AreLinesOf (lines ++ line ∷ []) (Some (record { begin = begin; entries = [] }))
first_line [] line begin h is = (is, tt)
first_line (l ∷ lines) line begin h is = absurd h

-- ---- and their book

first_legal : (begin : Begin) (r : Result Table ItemFault) → begun_table begin ≡ r → IsOk r → IsLegal (record { begin = begin; entries = [] })
unfolding IsLegal
first_legal begin (Ok items) e h = ((items, e), tt)
first_legal begin (Err fault) e h = cc

began : (log : Log) → log.entries ≡ [] → record { begin = log.begin; entries = [] } ≡ log
began log e = ap (λ (entries : List Entry). let s : Log = record { begin = log.begin; entries = entries } in s) (sym e)

pub more_given : (lines : List (List ℕ)) (before : Option Log) (line : List ℕ) (after : Log) → Give lines before → Follows before line after → Give (lines ++ line ∷ []) (Some after)
more_given lines None line after h f =
    subst (λ (s : Log). Give (lines ++ line ∷ []) (Some s)) (began after f.empty)
    (record { are_lines = first_line lines line after.begin h.are_lines f.is_line; is_legal = first_legal after.begin (begun_table after.begin) refl f.is_table })
more_given lines (Some before) line after h f =
    subst (λ (s : Log). Give (lines ++ line ∷ []) (Some s)) (sym f.after_is)
    (record { are_lines = more_lines lines before line f.entry h.are_lines f.is_line; is_legal = accepted_is_legal before f.entry h.is_legal f.is_accepted })

-- ---- texts, one after another

module _ {T : Type 0} (text : T → List ℕ) (lines : List T) (at : ℕ) (d line : T) (low : at < length lines) (is : get_or lines at d ≡ line) where
  placed : length (map text (take at lines)) ≡ at
  placed = length-map (take at lines) text ∙ length-take-le at lines (omega (arith, low))

  pub one_more : map text (take (at + 1) lines) ≡ map text (take at lines) ++ text line ∷ []
  one_more = ap (map text) (take_more lines at d low) ∙ map-append text (take at lines) (get_or lines at d ∷ []) ∙ ap (λ (x : T). map text (take at lines) ++ text x ∷ []) is

  pub parted : map text lines ≡ map text (take at lines) ++ text line ∷ map text (drop (at + 1) lines)
  parted =
      ap (map text) (sym (take-append-drop at lines)) ∙ map-append text (take at lines) (drop at lines)
      ∙ ap (λ (xs : List T). map text (take at lines) ++ map text xs) (drop_more lines at d low ∙ ap (λ (x : T). x ∷ drop (at + 1) lines) is)

  pub damage_at : (place : ℕ) (log : Option Log) (bytes : List ℕ) → place ≡ at → Give (map text (take at lines)) log → bytes ≡ text line → IsDamaged log bytes → HasDamageAt (map text lines) place
  damage_at place log bytes here given same damaged = record {
    front = map text (take at lines);
    line = text line;
    later = map text (drop (at + 1) lines);
    parts = parted;
    place_is = here ∙ sym placed;
    log = log;
    given = given;
    is_damaged = subst (λ (b : List ℕ). IsDamaged log b) same damaged;
  }

  pub given_more : (log : Option Log) (after : Log) (bytes : List ℕ) → Give (map text (take at lines)) log → bytes ≡ text line → Follows log bytes after → Give (map text (take (at + 1) lines)) (Some after)
  given_more log after bytes given same follows =
      subst (λ (ls : List (List ℕ)). Give ls (Some after)) (sym one_more)
      (more_given (map text (take at lines)) log (text line) after given (subst (λ (b : List ℕ). Follows log b after) same follows))

-- the fault that is told of a place
pub told_at : (p place : ℕ) (fault : LineFault) → fault_at p fault ≡ Damaged place → (fault ≡ line_fault.Damaged) × (place ≡ p)
told_at p place line_fault.Damaged e = let same : place ≡ p = cc in (refl, same)
told_at p place line_fault.Memory e = cc
