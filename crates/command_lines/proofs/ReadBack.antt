-- The one line of a command is read as that command.
use Rattle.std.proofs.Common.{arith, ◌≡◌, ◌≤◌, ◌∙◌, sym, ap, subst, refl, ℕ, ◌==◌, nat_le, true, false, not, ◌&&◌, List, [], ◌∷◌, ◌++◌, length, append-nil, Option, Some, None}
use Rattle.std.specs.List.{list_all}
use Rattle.std.specs.Fmt.{decimal}
use Rattle.std.proofs.lemmas.Bool.{and_parts, le-leb, not-true}
use Rattle.step_names.specs.Thread.{Thread, execution, is_name, is_name_byte}
use Rattle.step_names.specs.Written.{thread_text}
use Rattle.step_names.proofs.Parts.{lacks, lacks-append, passing_lacks}
use Rattle.step_names.proofs.Numbers.{number_reads}
use Rattle.step_names.proofs.Spelling.{decimal_lacks, thread_reads, step_reads}
use Rattle.attr_values.specs.declared.key.KeyAttribute.{KeyAttribute}
use Rattle.attr_values.specs.declared.key.KeyType.{KeyType}
use Rattle.attr_values.specs.declared.key.KeyType.TheVariants.{S, N}
use Rattle.asl_fields.specs.Fields.{is_text}
use Rattle.command_lines.specs.Grammar.{CommandView, table, define, start, step, undo, plan, rollback, settle, hold, drive, work, show, items, history, held, is_table_name, is_table_name_byte, execution_in, count_in, workers_in, work_of, type_in, key_name_in, key_attribute_in, first_word, table_by, table_of, define_of, start_of, words_command}
use Rattle.command_lines.specs.Spelled.{type_text, key_text, items_text, is_key_name, IsExecution, IsSort, IsProperCommand, line_of}
use Rattle.command_lines.specs.GrammarLaws.{LineIsRead}
use Rattle.command_lines.proofs.Cuts.{cut_some}

-- the bytes of a NAME
name_bytes : (word : List ℕ) → is_name word ≡ true → list_all is_name_byte word ≡ true
name_bytes word h =
    let s = and_parts (nat_le 1 (length word)) (nat_le (length word) 64 && list_all is_name_byte word) h in
    (and_parts (nat_le (length word) 64) (list_all is_name_byte word) s.1).1

name_lacks : (c : ℕ) (name : List ℕ) → is_name_byte c ≡ false → is_name name ≡ true → lacks c name ≡ true
name_lacks c name apart h = passing_lacks is_name_byte c name apart (name_bytes name h)

table_name_lacks : (name : List ℕ) → is_table_name name ≡ true → lacks 32 name ≡ true
table_name_lacks name h =
    let s = and_parts (nat_le 1 (length name)) (nat_le (length name) 255 && list_all is_table_name_byte name) h in
    passing_lacks is_table_name_byte 32 name refl (and_parts (nat_le (length name) 255) (list_all is_table_name_byte name) s.1).1

execution_is : (thread : Thread) → IsExecution thread → execution thread.exec ≡ thread
execution_is thread kept = ap (λ (path : List (ℕ × ℕ)). let t : Thread = record { exec = thread.exec; path = path } in t) (sym kept.1)

execution_reads : (thread : Thread) → IsExecution thread → execution_in (thread_text thread) ≡ Some thread
execution_reads thread kept =
    subst (λ (t : Thread). execution_in (thread_text t) ≡ Some t) (execution_is thread kept) (ap execution_in (append-nil thread.exec) ∙ rw kept.0)

thread_lacks : (c : ℕ) (thread : Thread) → is_name_byte c ≡ false → IsExecution thread → lacks c (thread_text thread) ≡ true
thread_lacks c thread apart kept =
    subst (λ (t : Thread). lacks c (thread_text t) ≡ true) (execution_is thread kept) (ap (lacks c) (append-nil thread.exec) ∙ name_lacks c thread.exec apart kept.0)

count_reads : (count : ℕ) → (1 ≤ count) × (count ≤ 65536) → count_in (decimal count) ≡ Some count
count_reads count kept = rw (number_reads count (omega (arith, kept.1)), le-leb 1 count kept.0, le-leb count 65536 kept.1)

workers_reads : (workers : ℕ) → (1 ≤ workers) × (workers ≤ 8) → workers_in (decimal workers) ≡ Some workers
workers_reads workers kept = rw (number_reads workers (omega (arith, kept.1)), le-leb 1 workers kept.0, le-leb workers 8 kept.1)

-- ---- keys

key_name_parts : (name : List ℕ) → is_key_name name ≡ true → (key_name_in name ≡ Some name) × (lacks 32 name ≡ true) × (lacks 58 name ≡ true)
key_name_parts [] h = cc
key_name_parts (b ∷ name) h =
    let s = and_parts (not (b == 91)) (lacks 32 (b ∷ name) && lacks 58 (b ∷ name)) h in
    let t = and_parts (lacks 32 (b ∷ name)) (lacks 58 (b ∷ name)) s.1 in
    (rw (not-true (b == 91) s.0), t.0, t.1)

type_reads : (kind : KeyType) → type_in (type_text kind) ≡ Some kind
type_reads S = refl
type_reads N = refl

type_lacks : (kind : KeyType) → lacks 32 (58 ∷ type_text kind) ≡ true
type_lacks S = refl
type_lacks N = refl

key_reads : (key : KeyAttribute) → is_key_name key.name ≡ true → key_attribute_in (key_text key) ≡ Some key
key_reads key h =
    let parts = key_name_parts key.name h in
    rw (cut_some 58 key.name (type_text key.kind) parts.2, parts.0, type_reads key.kind)

key_lacks : (key : KeyAttribute) → is_key_name key.name ≡ true → lacks 32 (key_text key) ≡ true
key_lacks key h = lacks-append 32 key.name (58 ∷ type_text key.kind) (key_name_parts key.name h).1 (type_lacks key.kind)

sort_reads : (name : List ℕ) (partition : KeyAttribute) (sort : Option KeyAttribute) (json : List ℕ) → IsSort partition sort json
    → table_by name partition (key_attribute_in (first_word (items_text sort json))) (items_text sort json) ≡ Some (table name (record { partition = partition; sort = sort }) json)
sort_reads name partition None json kept = rw kept
sort_reads name partition (Some sort) json kept =
    let cut = cut_some 32 (key_text sort) json (key_lacks sort kept.0) in
    let first : first_word (key_text sort ++ 32 ∷ json) ≡ key_text sort = rw cut in
    ap (λ (key : Option KeyAttribute). table_by name partition key (key_text sort ++ 32 ∷ json)) (ap key_attribute_in first ∙ key_reads sort kept.0)
    ∙ rw (cut, not-true (is_text sort.name partition.name) kept.1)

-- ---- lines

table_reads : (name : List ℕ) (partition : KeyAttribute) (sort : Option KeyAttribute) (json : List ℕ) → is_table_name name ≡ true → is_key_name partition.name ≡ true
    → IsSort partition sort json
    → table_of (name ++ 32 ∷ (key_text partition ++ 32 ∷ items_text sort json)) ≡ Some (table name (record { partition = partition; sort = sort }) json)
table_reads name partition sort json named keyed kept = rw (
  cut_some 32 name (key_text partition ++ 32 ∷ items_text sort json) (table_name_lacks name named),
  named,
  cut_some 32 (key_text partition) (items_text sort json) (key_lacks partition keyed),
  key_reads partition keyed,
) (sort_reads name partition sort json kept)

define_reads : (name json : List ℕ) → is_name name ≡ true → define_of (name ++ 32 ∷ json) ≡ Some (define name json)
define_reads name json h = rw (cut_some 32 name json (name_lacks 32 name refl h), h)

start_reads : (exec : Thread) (machine json : List ℕ) → IsExecution exec → is_name machine ≡ true → start_of (thread_text exec ++ 32 ∷ (machine ++ 32 ∷ json)) ≡ Some (start exec machine json)
start_reads exec machine json kept h = rw (
  cut_some 32 (thread_text exec) (machine ++ 32 ∷ json) (thread_lacks 32 exec refl kept),
  execution_reads exec kept,
  cut_some 32 machine json (name_lacks 32 machine refl h),
  h,
)

work_reads : (workers moves : ℕ) → (1 ≤ workers) × (workers ≤ 8) → (1 ≤ moves) × (moves ≤ 65536) → work_of (decimal workers ++ 32 ∷ decimal moves) ≡ Some (work workers moves)
work_reads workers moves few some = rw (
  cut_some 32 (decimal workers) (decimal moves) (decimal_lacks 32 workers refl (omega (arith, few.1))),
  workers_reads workers few,
  count_reads moves some,
)

text_reads : (command : CommandView) → IsProperCommand command → words_command (line_of command) ≡ Some command
text_reads (table name schema json) kept = table_reads name schema.partition schema.sort json kept.0 kept.1 kept.2
text_reads (define name json) kept = define_reads name json kept
text_reads (start exec machine json) kept = start_reads exec machine json kept.0 kept.1
text_reads (step thread) kept = rw (thread_reads thread kept)
text_reads (undo named) kept = rw (step_reads named kept)
text_reads (plan named) kept = rw (step_reads named kept)
text_reads (rollback named) kept = rw (step_reads named kept)
text_reads settle kept = refl
text_reads (hold named) kept = rw (step_reads named kept)
text_reads (drive count) kept = rw (count_reads count kept)
text_reads (work workers moves) kept = work_reads workers moves kept.0 kept.1
text_reads (show thread) kept = rw (thread_reads thread kept)
text_reads items kept = refl
text_reads history kept = refl
text_reads held kept = refl

pub line_is_read : LineIsRead
line_is_read command kept utf8 one = rw (utf8, one) (text_reads command kept)
