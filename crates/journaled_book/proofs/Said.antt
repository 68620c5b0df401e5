-- What a line says, and what its command comes to.
use Rattle.std.proofs.Common.{◌≡◌, ℕ, List, Some, Result, Ok, Err, refl, sym, ap, subst, ◌∙◌}
use Rattle.std.specs.Prelude.{[], ◌∷◌, IsOk, IfOk}
use Rattle.std.proofs.lemmas.Option.{same_Some}
use Rattle.serde_json.specs.View.{view}
use Rattle.attr_values.specs.declared.key.KeySchema.{KeySchema}
use Rattle.json_tree.specs.Data.{Data, Items, no_items, item, list, items_of}
use Rattle.json_tree.specs.Reading.{read_json}
use Rattle.step_names.specs.Thread.{Thread}
use Rattle.book_log.specs.Beginning.{begun_table}
use Rattle.book_log.specs.Legal.{IsAccepted}
use Rattle.book_log.specs.Log.{Log, appended}
use Rattle.book_log.specs.declared.begin.Begin.{Begin}
use Rattle.book_log.specs.declared.entry.Entry.{Entry}
use Rattle.book_log.specs.declared.refusal.Refusal.{Refusal}
use Rattle.command_lines.specs.Grammar as command_view
use Rattle.command_lines.specs.Grammar.{command_of}
use Rattle.book_events.specs.Answered.{IsCommandAnswered, entry_by}
use Rattle.book_events.specs.declared.change.Change.{Change}
use Rattle.book_events.specs.declared.change.Change.TheVariants as change
use Rattle.book_events.proofs.Threads.{step_thread}
use Rattle.journaled_book.specs.Lines.{IsBeginLine, IsLineOf, SaysChange, Adds}

-- ---- the table's line

abbrev values_in : Items → List Data
values_in no_items = []
values_in (item d ds) = d ∷ values_in ds

values_of : (ds : List Data) → values_in (items_of ds) ≡ ds
values_of [] = refl
values_of (d ∷ ds) = ap (λ (es : List Data). d ∷ es) (values_of ds)

one_list : (a b : List Data) → Some (list (items_of a)) ≡ Some (list (items_of b)) → a ≡ b
one_list a b e = let f : items_of a ≡ items_of b = cc in sym (values_of a) ∙ ap values_in f ∙ values_of b

abbrev beginning : List ℕ → KeySchema → List Data → Begin
beginning name schema items = record { table = name; schema = schema; items = items }

pub table_refused : (line name : List ℕ) (schema : KeySchema) (json : List ℕ) (items : List Data) → command_of line ≡ Some (command_view.table name schema json) → read_json json ≡ Some (list (items_of items))
    → ¬ IsOk (begun_table (beginning name schema items)) → (begin : Begin) → IsBeginLine line begin → IsOk (begun_table begin) → ⊥
table_refused line name schema json items is read none begin h ok =
    let e : command_view.table begin.table begin.schema h.json ≡ command_view.table name schema json = same_Some _ _ (sym h.is_table ∙ is) in
    let named : begin.table ≡ name = cc in
    let keyed : begin.schema ≡ schema = cc in
    let text : h.json ≡ json = cc in
    let listed : begin.items ≡ items = one_list begin.items items (sym h.items ∙ ap read_json text ∙ read) in
    let same : begin ≡ beginning name schema items =
    ap (λ (n : List ℕ). beginning n begin.schema begin.items) named ∙ ap (λ (k : KeySchema). beginning name k begin.items) keyed ∙ ap (λ (ds : List Data). beginning name schema ds) listed
    in
    none (subst (λ (b : Begin). IsOk (begun_table b)) same ok)

-- ---- the entry of a change is its line's

entry_said : (log : Log) (what : Change) (entry : Entry) (line : List ℕ) → IsCommandAnswered log what (Ok entry) → SaysChange what line → IsLineOf line entry
entry_said log (change.Define name definition) entry line h says =
    subst (IsLineOf line) (sym h.2) (record { json = says.0; is_define = says.1; definition = view definition.now; is_read = says.2; defines = h.1 })
entry_said log (change.Start exec machine input) entry line h says = subst (IsLineOf line) (sym h.1) says
entry_said log (change.Step thread) entry line h says =
    subst (IsLineOf line) (sym h.2) (says ∙ ap (λ (t : Thread). Some (command_view.step t)) (sym (step_thread log thread.now h.0 h.1)))
entry_said log (change.Undo step) entry line h says = subst (IsLineOf line) (sym h.1) says
entry_said log (change.Rollback step) entry line h says = subst (IsLineOf line) (sym h.2) says
entry_said log change.Settle entry line h says = subst (IsLineOf line) (sym h.1) says
entry_said log (change.Hold step) entry line h says = subst (IsLineOf line) (sym h.2) says

pub said_if_ok : {M : Type 0} (entry_in : M → Entry) (log : Log) (what : Change) (r : Result M Refusal) → IsCommandAnswered log what (entry_by entry_in r)
    → IfOk r (λ made. (line : List ℕ) → SaysChange what line → IsLineOf line (entry_in made))
said_if_ok entry_in log what (Ok made) h = λ line says. entry_said log what (entry_in made) line h says
said_if_ok entry_in log what (Err e) h = tt

pub entry_added : (log between after : Log) (what : Change) (entry : Entry) → IsCommandAnswered log what (Ok entry) → IsAccepted log entry → between ≡ log → after ≡ appended between entry
    → (line : List ℕ) → SaysChange what line → Adds log line after
entry_added log between after what entry h is_accepted same is line says = record {
  entry = entry;
  is_line = entry_said log what entry line h says;
  is_accepted = is_accepted;
  after_is = is ∙ ap (λ (s : Log). appended s entry) same;
}
