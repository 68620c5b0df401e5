-- The outline of a legal log, entered entry by entry.
use Rattle.std.proofs.Common.{◌≡◌, ◌<◌, ◌≤◌, ◌+◌, ◌-◌, arith, ℕ, true, false, List, [], ◌∷◌, ◌++◌, drop, get_or, length, take, suc, append_assoc, refl, ap, sym, subst, ◌∙◌, Some}
use Rattle.std.specs.Prelude.{slice_get}
use Rattle.std.specs.List.{list_any}
use Rattle.std.proofs.lemmas.Option.{slice_get_within, get_or_from_slice_get}
use Rattle.trace_theory.specs.Traces.{In}
use Rattle.trace_theory.proofs.Lists.{any_none, here}
use Rattle.book_log.specs.Answers.{defines, is_settlement, outline}
use Rattle.book_log.specs.Legal.{IsAccepted, IsLegal}
use Rattle.book_log.specs.declared.begin.Begin.{Begin}
use Rattle.book_log.specs.declared.entry.Entry.{Entry}
use Rattle.book_log.specs.declared.entry.Entry.TheVariants.{Define, Start, Step as Stepped, Undo, Rollback, Settle, Hold}
use Rattle.book_log.proofs.LegalRuns.{of_log}
use Rattle.book_log.proofs.Outlines.{outline_more, outline_settled}
use Rattle.rollback_book.specs.Rerunning.{MayDefine}
use Rattle.rollback_book.proofs.Rerun.{legal_entry, may_define, parts_at, take_next}

settlement_is : (e : Entry) → is_settlement e ≡ true → e ≡ Settle
settlement_is (Define name machine) h = cc
settlement_is (Start exec machine input) h = cc
settlement_is (Stepped name kind) h = cc
settlement_is (Undo name) h = cc
settlement_is (Rollback name undone) h = cc
settlement_is Settle h = refl
settlement_is (Hold name count) h = cc

-- ---- entries that are entered again

-- one of the first entries of a legal log is accepted after those before it
pub entry_in : (begin : Begin) (entries items rest : List Entry) (i : ℕ) (e : Entry) → IsLegal (of_log begin entries) → items ++ rest ≡ entries → i < length items → e ≡ get_or items i e → IsAccepted (of_log begin (take i items)) e
entry_in begin entries items rest i e legal whole low is =
    legal_entry (of_log begin entries) (take i items) (drop (suc i) items ++ rest) e legal
    (sym whole ∙ ap (λ (l : List Entry). l ++ rest) (parts_at items i e low is) ∙ append_assoc (take i items) (e ∷ drop (suc i) items) rest)

-- ---- definitions since

-- a definition among the last entries is accepted after the outline of those before it
pub define_in : (begin : Begin) (entries front rest : List Entry) (i : ℕ) (e : Entry) → IsLegal (of_log begin entries) → front ++ rest ≡ entries → i < length rest → e ≡ get_or rest i e → MayDefine (of_log begin (outline (front ++ take i rest))) e
define_in begin entries front rest i e legal whole low is =
    may_define begin (front ++ take i rest) (drop (suc i) rest) e
    (subst (λ (l : List Entry). IsLegal (of_log begin l))
    (sym whole ∙ ap (λ (l : List Entry). front ++ l) (parts_at rest i e low is) ∙ sym (append_assoc front (take i rest) (e ∷ drop (suc i) rest))) legal)

pub outline_next : (front rest : List Entry) (i : ℕ) (e : Entry) → list_any is_settlement rest ≡ false → i < length rest → e ≡ get_or rest i e → outline (front ++ take i rest) ++ defines (e ∷ []) ≡ outline (front ++ take (i + 1) rest)
outline_next front rest i e none low is =
    let there : In e rest = subst (In e) (sym (parts_at rest i e low is)) (here e (take i rest) (drop (suc i) rest)) in
    sym (outline_more (front ++ take i rest) e (any_none is_settlement rest none e there))
    ∙ ap outline (append_assoc front (take i rest) (e ∷ []) ∙ ap (λ (l : List Entry). front ++ l) (sym (take_next rest i e low is)))

-- ---- the last settlement

pub whole_to : (entries : List Entry) (later : ℕ) (e : Entry) → 1 ≤ later → slice_get entries (later - 1) ≡ Some e → is_settlement e ≡ true → outline (take later entries) ≡ take later entries
whole_to entries later e some there is =
    let within = slice_get_within entries (later - 1) e there in
    let n : later - 1 + 1 ≡ later = omega (arith, some) in
    let parts : take later entries ≡ take (later - 1) entries ++ Settle ∷ [] =
    ap (λ (k : ℕ). take k entries) (sym n) ∙ take_next entries (later - 1) e within (sym (get_or_from_slice_get entries (later - 1) e e there)) ∙ ap (λ (x : Entry). take (later - 1) entries ++ x ∷ []) (settlement_is e is) in
    ap outline parts ∙ outline_settled (take (later - 1) entries) ∙ sym parts
