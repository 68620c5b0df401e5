-- JSON of a line, and what is told where it is none.
use Rattle.std.proofs.Common.{◌≡◌, ℕ, List, [], ◌∷◌, Option, Some, None, refl, sym, ap, subst, inr}
use Rattle.std.specs.Prelude.{◌⊎◌, Result, Ok, Err, IsOk, option_and_then}
use Rattle.serde_json.specs.Data as source
use Rattle.json_tree.specs.Data.{Data, list, items_of}
use Rattle.json_tree.specs.Reading.{source_of, whole_of, read_json}
use Rattle.json_tree.specs.declared.fault.JsonFault.TheVariants.{Memory}
use Rattle.book_log.specs.Log.{Log}
use Rattle.attr_values.specs.declared.key.KeySchema.{KeySchema}
use Rattle.attr_values.specs.declared.fault.ItemFault.{ItemFault}
use Rattle.item_store.specs.Table.{Table}
use Rattle.attr_values.specs.declared.fault.ItemFault.TheVariants as item_fault
use Rattle.book_journal.specs.declared.fault.JournalFault.{JournalFault}
use Rattle.book_log.specs.Beginning.{begun_table}
use Rattle.book_log.specs.declared.begin.Begin.{Begin}
use Rattle.journaled_book.specs.Changes.{RefusesBegin}
use Rattle.journaled_book.specs.declared.fault.BeginRefusal.{BeginRefusal}
use Rattle.journaled_book.specs.declared.fault.BeginRefusal.TheVariants as not_begun
use Rattle.operator_line.specs.Answers.{journal_reply, OfJson, OfSource, OfWhole, values_in, AnswersItems, AnswersBegin, AnswersBeginning}
use Rattle.reply_lines.specs.Replies.{item_fault_reply}

of_whole : (w : Option Data) (d : Data) (Refused : List ℕ → Type 0) (Read : Data → Type 0) → w ≡ Some d → Read d → OfWhole w Refused Read
of_whole None d Refused Read e p = cc
of_whole (Some x) d Refused Read e p = let same : d ≡ x = cc in subst Read same p

of_source : (s : Option source.Data) (d : Data) (Refused : List ℕ → Type 0) (Read : Data → Type 0) → option_and_then whole_of s ≡ Some d → Read d → OfSource s Refused Read
of_source None d Refused Read e p = cc
of_source (Some x) d Refused Read e p = of_whole (whole_of x) d Refused Read e p

-- a value that is read
pub json-read : (json : List ℕ) (d : Data) (Refused : List ℕ → Type 0) (Read : Data → Type 0) → read_json json ≡ Some d → Read d → OfJson json Refused Read
json-read json d Refused Read e p = of_source (source_of json) d Refused Read e p

-- the items of a list are its values
pub values_of : (ds : List Data) → values_in (items_of ds) ≡ ds
values_of [] = refl
values_of (d ∷ ds) = ap (λ (es : List Data). d ∷ es) (values_of ds)

-- a table with items
pub items-begin : (name : List ℕ) (schema : KeySchema) (ds : List Data) (reply : List ℕ) (after : Option Log) → AnswersBeginning (record { table = name; schema = schema; items = ds }) reply after
    → AnswersItems name schema (list (items_of ds)) reply after
items-begin name schema ds reply after h =
    subst (λ (es : List Data). AnswersBeginning (record { table = name; schema = schema; items = es }) reply after) (sym (values_of ds)) h

pub begin-unwritten : (begin : Begin) (r : Result Table ItemFault) (reply : List ℕ) (after : Option Log) → IsOk r → (reply ≡ journal_reply) × (after ≡ None) → AnswersBegin begin r reply after
begin-unwritten begin (Ok items) reply after ok h = inr h
begin-unwritten begin (Err fault) reply after ok h = cc

-- why it isn't begun, where an item is told, or the journal
pub begin-item : (begin : Begin) (refusal : BeginRefusal) (fault : ItemFault) → refusal ≡ not_begun.Item fault → RefusesBegin begin refusal → (fault ≡ item_fault.Memory) ⊎ (begun_table begin ≡ Err fault)
begin-item begin (not_begun.Item f) fault e h = let same : f ≡ fault = cc in subst (λ (x : ItemFault). (x ≡ item_fault.Memory) ⊎ (begun_table begin ≡ Err x)) same h
begin-item begin (not_begun.Journal f) fault e h = cc

pub begin-journal : (begin : Begin) (refusal : BeginRefusal) (fault : JournalFault) → refusal ≡ not_begun.Journal fault → RefusesBegin begin refusal → IsOk (begun_table begin)
begin-journal begin (not_begun.Journal f) fault e h = h.0
begin-journal begin (not_begun.Item f) fault e h = cc

pub begin-refused : (begin : Begin) (r : Result Table ItemFault) (fault : ItemFault) (reply : List ℕ) (after : Option Log) → r ≡ Err fault → (reply ≡ item_fault_reply fault) × (after ≡ None) → AnswersBegin begin r reply after
begin-refused begin r fault reply after e h = subst (λ (x : Result Table ItemFault). AnswersBegin begin x reply after) (sym e) h
