-- A line that is a command is its one line.
use Rattle.std.proofs.Common.{◌≡◌, ◌≤◌, ◌∙◌, sym, ap, subst, refl, ℕ, ◌==◌, nat_le, ◌&&◌, Bool, true, false, not, cond, List, [], ◌∷◌, ◌++◌, append-nil, Option, Some, None, codes, ◌⊎◌, inl, inr, eqb-true}
use Rattle.std.specs.Option.{option_map, option_and_then}
use Rattle.std.specs.Str.{is_utf8}
use Rattle.std.specs.Fmt.{decimal}
use Rattle.std.specs.Cmp.Lexicographic.{bytes_decides}
use Rattle.std.proofs.lemmas.Bool.{and_parts, and_from, leb-true}
use Rattle.step_names.specs.Thread.{Thread, execution, is_name}
use Rattle.step_names.specs.Written.{thread_text}
use Rattle.step_names.specs.Grammar.{read_step_number, read_thread, read_step}
use Rattle.step_names.proofs.Parts.{lacks}
use Rattle.step_names.proofs.Numbers.{number_writes}
use Rattle.step_names.proofs.Spelling.{thread_writes, step_writes}
use Rattle.attr_values.specs.declared.key.KeyAttribute.{KeyAttribute}
use Rattle.attr_values.specs.declared.key.KeyType.{KeyType}
use Rattle.attr_values.specs.declared.key.KeyType.TheVariants.{S, N}
use Rattle.asl_fields.specs.Fields.{is_text}
use Rattle.command_lines.specs.Grammar.{CommandView, table, step, undo, plan, rollback, settle, hold, drive, show, items, history, held, cut_at, is_table_name, execution_in, within_drive, count_in, within_workers, workers_in, work_of, type_in, key_name_in, key_attribute_in, first_word, table_by, table_of, define_of, start_of, command_by, is_one_line, text_command, words_command}
use Rattle.command_lines.specs.Spelled.{type_text, key_text, items_text, is_key_name, IsExecution, IsSort, IsProperCommand, line_of}
use Rattle.command_lines.specs.GrammarLaws.{LineSaysOne, LineIsSpelled}

same_some : {A : Type 0} (a b : A) → Some a ≡ Some b → a ≡ b
same_some a b h = cc

pub line_says_one : LineSaysOne
line_says_one line a b h k = same_some a b (sym h ∙ k)

-- ---- the parts of what is read

bind_found : {A B : Type 0} (o : Option A) (f : A → Option B) (b : B) → option_and_then f o ≡ Some b → (a : A) × (o ≡ Some a) × (f a ≡ Some b)
bind_found None f b h = cc
bind_found (Some a) f b h = (a, refl, h)

map_found : {A B : Type 0} (o : Option A) (f : A → B) (b : B) → option_map f o ≡ Some b → (a : A) × (o ≡ Some a) × (f a ≡ b)
map_found None f b h = cc
map_found (Some a) f b h = (a, refl, same_some (f a) b h)

test_found : {A : Type 0} (test : Bool) (a b : A) → cond test (Some a) None ≡ Some b → (test ≡ true) × (a ≡ b)
test_found true a b h = (refl, same_some a b h)
test_found false a b h = cc

choice_found : {A : Type 0} (test : Bool) (o p : Option A) (a : A) → cond test o p ≡ Some a → ((test ≡ true) × (o ≡ Some a)) ⊎ (p ≡ Some a)
choice_found true o p a h = inl (refl, h)
choice_found false o p a h = inr h

pub cut_back : (c : ℕ) (bs : List ℕ) (p : List ℕ × List ℕ) → cut_at c bs ≡ Some p → (bs ≡ p.0 ++ c ∷ p.1) × (lacks c p.0 ≡ true)
cut_back c [] p h = cc
cut_back c (b ∷ bs) p h = by_test (b == c) refl (cut_at c bs) (λ q e. cut_back c bs q e) h
  where
    by_test : (test : Bool) → (b == c) ≡ test → (o : Option (List ℕ × List ℕ))
        → ((q : List ℕ × List ℕ) → o ≡ Some q → (bs ≡ q.0 ++ c ∷ q.1) × (lacks c q.0 ≡ true))
        → cond test (Some ([], bs)) (option_map (λ parts. (b ∷ parts.0, parts.1)) o) ≡ Some p
        → (b ∷ bs ≡ p.0 ++ c ∷ p.1) × (lacks c p.0 ≡ true)
    by_test true e o k h =
        subst (λ (w : List ℕ × List ℕ). (b ∷ bs ≡ w.0 ++ c ∷ w.1) × (lacks c w.0 ≡ true)) (same_some ([], bs) p h) (ap (λ (d : ℕ). d ∷ bs) (eqb-true b c e), refl)
    by_test false e None k h = cc
    by_test false e (Some q) k h =
        let rest = k q refl in
        subst (λ (w : List ℕ × List ℕ). (b ∷ bs ≡ w.0 ++ c ∷ w.1) × (lacks c w.0 ≡ true)) (same_some (b ∷ q.0, q.1) p h) (ap (λ (ds : List ℕ). b ∷ ds) rest.0, rw e rest.1)

-- ---- words

pub execution_says : (word : List ℕ) (thread : Thread) → execution_in word ≡ Some thread → IsExecution thread × (word ≡ thread_text thread)
execution_says word thread h =
    let found = test_found (is_name word) (execution word) thread h in
    subst (λ (t : Thread). IsExecution t × (word ≡ thread_text t)) found.1 ((found.0, refl), sym (append-nil word))

count_says : (word : List ℕ) (count : ℕ) → count_in word ≡ Some count → IsProperCommand (drive count) × (word ≡ decimal count)
count_says word count h =
    let number = bind_found (read_step_number word) within_drive count h in
    let found = test_found (nat_le 1 number.0 && nat_le number.0 65536) number.0 count number.2 in
    let bounds = and_parts (nat_le 1 number.0) (nat_le number.0 65536) found.0 in
    subst (λ (n : ℕ). ((1 ≤ n) × (n ≤ 65536)) × (word ≡ decimal n)) found.1
    ((leb-true 1 number.0 bounds.0, leb-true number.0 65536 bounds.1), sym (number_writes word number.0 number.1))

workers_say : (word : List ℕ) (workers : ℕ) → workers_in word ≡ Some workers → ((1 ≤ workers) × (workers ≤ 8)) × (word ≡ decimal workers)
workers_say word workers h =
    let number = bind_found (read_step_number word) within_workers workers h in
    let found = test_found (nat_le 1 number.0 && nat_le number.0 8) number.0 workers number.2 in
    let bounds = and_parts (nat_le 1 number.0) (nat_le number.0 8) found.0 in
    subst (λ (n : ℕ). ((1 ≤ n) × (n ≤ 8)) × (word ≡ decimal n)) found.1
    ((leb-true 1 number.0 bounds.0, leb-true number.0 8 bounds.1), sym (number_writes word number.0 number.1))

-- ---- lines

pub define_says : (text : List ℕ) (command : CommandView) → define_of text ≡ Some command → IsProperCommand command × (codes "define " ++ text ≡ line_of command)
define_says text command h =
    let cut = bind_found (cut_at 32 text) _ command h in
    let name = bind_found (cond (is_name cut.0.0) (Some cut.0.0) None) _ command cut.2 in
    let word = test_found (is_name cut.0.0) cut.0.0 name.0 name.1 in
    let joined : text ≡ name.0 ++ 32 ∷ cut.0.1 = (cut_back 32 text cut.0 cut.1).0 ∙ ap (λ (w : List ℕ). w ++ 32 ∷ cut.0.1) word.1 in
    subst (λ (s : CommandView). IsProperCommand s × (codes "define " ++ text ≡ line_of s)) (same_some _ command name.2)
    (subst (λ (w : List ℕ). is_name w ≡ true) word.1 word.0, ap (λ (w : List ℕ). codes "define " ++ w) joined)

pub start_says : (text : List ℕ) (command : CommandView) → start_of text ≡ Some command → IsProperCommand command × (codes "start " ++ text ≡ line_of command)
start_says text command h =
    let cut = bind_found (cut_at 32 text) _ command h in
    let exec = bind_found (execution_in cut.0.0) _ command cut.2 in
    let rest = bind_found (cut_at 32 cut.0.1) _ command exec.2 in
    let name = bind_found (cond (is_name rest.0.0) (Some rest.0.0) None) _ command rest.2 in
    let word = test_found (is_name rest.0.0) rest.0.0 name.0 name.1 in
    let thread = execution_says cut.0.0 exec.0 exec.1 in
    let after : cut.0.1 ≡ name.0 ++ 32 ∷ rest.0.1 = (cut_back 32 cut.0.1 rest.0 rest.1).0 ∙ ap (λ (w : List ℕ). w ++ 32 ∷ rest.0.1) word.1 in
    let joined : text ≡ thread_text exec.0 ++ 32 ∷ (name.0 ++ 32 ∷ rest.0.1) =
    (cut_back 32 text cut.0 cut.1).0 ∙ ap (λ (w : List ℕ). w ++ 32 ∷ cut.0.1) thread.1 ∙ ap (λ (w : List ℕ). thread_text exec.0 ++ 32 ∷ w) after in
    subst (λ (s : CommandView). IsProperCommand s × (codes "start " ++ text ≡ line_of s)) (same_some _ command name.2)
    ((thread.0, subst (λ (w : List ℕ). is_name w ≡ true) word.1 word.0), ap (λ (w : List ℕ). codes "start " ++ w) joined)

lacks_front : (c : ℕ) (xs ys : List ℕ) → lacks c (xs ++ ys) ≡ true → lacks c xs ≡ true
lacks_front c [] ys h = refl
lacks_front c (x ∷ xs) ys h =
    let s = and_parts (not (x == c)) (lacks c (xs ++ ys)) h in
    and_from (not (x == c)) (lacks c xs) s.0 (lacks_front c xs ys s.1)

key_name_says : (name kept : List ℕ) → key_name_in name ≡ Some kept → lacks 32 name ≡ true → lacks 58 name ≡ true → (is_key_name kept ≡ true) × (name ≡ kept)
key_name_says [] kept h space colon = cc
key_name_says (b ∷ name) kept h space colon = by_test (b == 91) refl h
  where
    by_test : (test : Bool) → (b == 91) ≡ test → cond test None (Some (b ∷ name)) ≡ Some kept → (is_key_name kept ≡ true) × (b ∷ name ≡ kept)
    by_test true e k = cc
    by_test false e k =
        let same = same_some (b ∷ name) kept k in
        let proper : is_key_name (b ∷ name) ≡ true = rw e (and_from (lacks 32 (b ∷ name)) (lacks 58 (b ∷ name)) space colon) in
        (subst (λ (w : List ℕ). is_key_name w ≡ true) same proper, same)

type_says : (text : List ℕ) (kind : KeyType) → type_in text ≡ Some kind → text ≡ type_text kind
type_says text kind h = elim (choice_found (is_text text (codes "S")) (Some S) _ kind h) [
  | inl w ↦ (bytes_decides text (codes "S")).0 w.0 ∙ ap type_text (same_some S kind w.1)
  | inr k ↦ let w = test_found (is_text text (codes "N")) N kind k in (bytes_decides text (codes "N")).0 w.0 ∙ ap type_text w.1
]

pub key_says : (word : List ℕ) (key : KeyAttribute) → lacks 32 word ≡ true → key_attribute_in word ≡ Some key → (is_key_name key.name ≡ true) × (word ≡ key_text key)
key_says word key space h =
    let cut = bind_found (cut_at 58 word) _ key h in
    let name = bind_found (key_name_in cut.0.0) _ key cut.2 in
    let kind = bind_found (type_in cut.0.1) _ key name.2 in
    let back = cut_back 58 word cut.0 cut.1 in
    let front : lacks 32 cut.0.0 ≡ true = lacks_front 32 cut.0.0 (58 ∷ cut.0.1) (sym (ap (lacks 32) back.0) ∙ space) in
    let named = key_name_says cut.0.0 name.0 name.1 front back.1 in
    let joined : word ≡ name.0 ++ 58 ∷ type_text kind.0 =
    back.0 ∙ ap (λ (w : List ℕ). w ++ 58 ∷ cut.0.1) named.1 ∙ ap (λ (w : List ℕ). name.0 ++ 58 ∷ w) (type_says cut.0.1 kind.0 kind.1) in
    subst (λ (k : KeyAttribute). (is_key_name k.name ≡ true) × (word ≡ key_text k)) (same_some _ key kind.2) (named.0, joined)

untest_found : {A : Type 0} (test : Bool) (a b : A) → cond test None (Some a) ≡ Some b → (test ≡ false) × (a ≡ b)
untest_found true a b h = cc
untest_found false a b h = (refl, same_some a b h)

first_of : (text : List ℕ) (p : List ℕ × List ℕ) → cut_at 32 text ≡ Some p → first_word text ≡ p.0
first_of text p h = rw h

sort_says : (name : List ℕ) (partition : KeyAttribute) (sort : Option KeyAttribute) (text : List ℕ) (command : CommandView) → key_attribute_in (first_word text) ≡ sort
    → table_by name partition sort text ≡ Some command
    → (json : List ℕ) × (table name (record { partition = partition; sort = sort }) json ≡ command) × IsSort partition sort json × (text ≡ items_text sort json)
sort_says name partition None text command e h = (text, same_some _ command h, e, refl)
sort_says name partition (Some sort) text command e h =
    let cut = bind_found (cut_at 32 text) _ command h in
    let back = cut_back 32 text cut.0 cut.1 in
    let first = first_of text cut.0 cut.1 in
    let apart = untest_found (is_text sort.name partition.name) _ command cut.2 in
    let key = key_says cut.0.0 sort back.1 (sym (ap key_attribute_in first) ∙ e) in
    (cut.0.1, apart.1, (key.0, ap not apart.0), back.0 ∙ ap (λ (w : List ℕ). w ++ 32 ∷ cut.0.1) key.1)

pub table_says : (text : List ℕ) (command : CommandView) → table_of text ≡ Some command → IsProperCommand command × (codes "table " ++ text ≡ line_of command)
table_says text command h =
    let cut = bind_found (cut_at 32 text) _ command h in
    let name = bind_found (cond (is_table_name cut.0.0) (Some cut.0.0) None) _ command cut.2 in
    let word = test_found (is_table_name cut.0.0) cut.0.0 name.0 name.1 in
    let rest = bind_found (cut_at 32 cut.0.1) _ command name.2 in
    let partition = bind_found (key_attribute_in rest.0.0) _ command rest.2 in
    let sort = sort_says name.0 partition.0 (key_attribute_in (first_word rest.0.1)) rest.0.1 command refl partition.2 in
    let back = cut_back 32 cut.0.1 rest.0 rest.1 in
    let key = key_says rest.0.0 partition.0 back.1 partition.1 in
    let after : cut.0.1 ≡ key_text partition.0 ++ 32 ∷ items_text (key_attribute_in (first_word rest.0.1)) sort.0 =
    back.0 ∙ ap (λ (w : List ℕ). w ++ 32 ∷ rest.0.1) key.1 ∙ ap (λ (w : List ℕ). key_text partition.0 ++ 32 ∷ w) sort.3 in
    let joined : text ≡ name.0 ++ 32 ∷ (key_text partition.0 ++ 32 ∷ items_text (key_attribute_in (first_word rest.0.1)) sort.0) =
    (cut_back 32 text cut.0 cut.1).0 ∙ ap (λ (w : List ℕ). w ++ 32 ∷ cut.0.1) word.1 ∙ ap (λ (w : List ℕ). name.0 ++ 32 ∷ w) after in
    subst (λ (s : CommandView). IsProperCommand s × (codes "table " ++ text ≡ line_of s)) sort.1
    ((subst (λ (w : List ℕ). is_table_name w ≡ true) word.1 word.0, key.0, sort.2), ap (λ (w : List ℕ). codes "table " ++ w) joined)

step_line : (text : List ℕ) (command : CommandView) → option_map step (read_thread text) ≡ Some command → IsProperCommand command × (codes "step " ++ text ≡ line_of command)
step_line text command h =
    let found = map_found (read_thread text) step command h in
    let thread = thread_writes text found.0 found.1 in
    subst (λ (s : CommandView). IsProperCommand s × (codes "step " ++ text ≡ line_of s)) found.2 (thread.0, ap (λ (w : List ℕ). codes "step " ++ w) (sym thread.1))

show_line : (text : List ℕ) (command : CommandView) → option_map show (read_thread text) ≡ Some command → IsProperCommand command × (codes "show " ++ text ≡ line_of command)
show_line text command h =
    let found = map_found (read_thread text) show command h in
    let thread = thread_writes text found.0 found.1 in
    subst (λ (s : CommandView). IsProperCommand s × (codes "show " ++ text ≡ line_of s)) found.2 (thread.0, ap (λ (w : List ℕ). codes "show " ++ w) (sym thread.1))

undo_line : (text : List ℕ) (command : CommandView) → option_map undo (read_step text) ≡ Some command → IsProperCommand command × (codes "undo " ++ text ≡ line_of command)
undo_line text command h =
    let found = map_found (read_step text) undo command h in
    let named = step_writes text found.0 found.1 in
    subst (λ (s : CommandView). IsProperCommand s × (codes "undo " ++ text ≡ line_of s)) found.2 (named.0, ap (λ (w : List ℕ). codes "undo " ++ w) (sym named.1))

plan_line : (text : List ℕ) (command : CommandView) → option_map plan (read_step text) ≡ Some command → IsProperCommand command × (codes "plan " ++ text ≡ line_of command)
plan_line text command h =
    let found = map_found (read_step text) plan command h in
    let named = step_writes text found.0 found.1 in
    subst (λ (s : CommandView). IsProperCommand s × (codes "plan " ++ text ≡ line_of s)) found.2 (named.0, ap (λ (w : List ℕ). codes "plan " ++ w) (sym named.1))

rollback_line : (text : List ℕ) (command : CommandView) → option_map rollback (read_step text) ≡ Some command → IsProperCommand command × (codes "rollback " ++ text ≡ line_of command)
rollback_line text command h =
    let found = map_found (read_step text) rollback command h in
    let named = step_writes text found.0 found.1 in
    subst (λ (s : CommandView). IsProperCommand s × (codes "rollback " ++ text ≡ line_of s)) found.2 (named.0, ap (λ (w : List ℕ). codes "rollback " ++ w) (sym named.1))

hold_line : (text : List ℕ) (command : CommandView) → option_map hold (read_step text) ≡ Some command → IsProperCommand command × (codes "hold " ++ text ≡ line_of command)
hold_line text command h =
    let found = map_found (read_step text) hold command h in
    let named = step_writes text found.0 found.1 in
    subst (λ (s : CommandView). IsProperCommand s × (codes "hold " ++ text ≡ line_of s)) found.2 (named.0, ap (λ (w : List ℕ). codes "hold " ++ w) (sym named.1))

drive_line : (text : List ℕ) (command : CommandView) → option_map drive (count_in text) ≡ Some command → IsProperCommand command × (codes "drive " ++ text ≡ line_of command)
drive_line text command h =
    let found = map_found (count_in text) drive command h in
    let count = count_says text found.0 found.1 in
    subst (λ (s : CommandView). IsProperCommand s × (codes "drive " ++ text ≡ line_of s)) found.2 (count.0, ap (λ (w : List ℕ). codes "drive " ++ w) count.1)

work_line : (text : List ℕ) (command : CommandView) → work_of text ≡ Some command → IsProperCommand command × (codes "work " ++ text ≡ line_of command)
work_line text command h =
    let cut = bind_found (cut_at 32 text) _ command h in
    let workers = bind_found (workers_in cut.0.0) _ command cut.2 in
    let moves = bind_found (count_in cut.0.1) _ command workers.2 in
    let first = workers_say cut.0.0 workers.0 workers.1 in
    let second = count_says cut.0.1 moves.0 moves.1 in
    let joined : text ≡ decimal workers.0 ++ 32 ∷ decimal moves.0 =
    (cut_back 32 text cut.0 cut.1).0 ∙ ap (λ (w : List ℕ). w ++ 32 ∷ cut.0.1) first.1 ∙ ap (λ (w : List ℕ). decimal workers.0 ++ 32 ∷ w) second.1 in
    subst (λ (s : CommandView). IsProperCommand s × (codes "work " ++ text ≡ line_of s)) (same_some _ command moves.2)
    ((first.0, second.0), ap (λ (w : List ℕ). codes "work " ++ w) joined)

by_word : (keyword text word : List ℕ) (command : CommandView) → is_text keyword word ≡ true → IsProperCommand command × (word ++ 32 ∷ text ≡ line_of command)
    → IsProperCommand command × (keyword ++ 32 ∷ text ≡ line_of command)
by_word keyword text word command same says = (says.0, ap (λ (w : List ℕ). w ++ 32 ∷ text) ((bytes_decides keyword word).0 same) ∙ says.1)

pub command_says : (keyword text : List ℕ) (command : CommandView) → command_by keyword text ≡ Some command → IsProperCommand command × (keyword ++ 32 ∷ text ≡ line_of command)
command_says keyword text command h = elim (choice_found (is_text keyword (codes "table")) (table_of text) _ command h) [
  | inl w ↦ by_word keyword text (codes "table") command w.0 (table_says text command w.1)
  | inr h1 ↦ elim (choice_found (is_text keyword (codes "define")) (define_of text) _ command h1) [
    | inl w ↦ by_word keyword text (codes "define") command w.0 (define_says text command w.1)
    | inr h2 ↦ elim (choice_found (is_text keyword (codes "start")) (start_of text) _ command h2) [
      | inl w ↦ by_word keyword text (codes "start") command w.0 (start_says text command w.1)
      | inr h3 ↦ elim (choice_found (is_text keyword (codes "step")) (option_map step (read_thread text)) _ command h3) [
        | inl w ↦ by_word keyword text (codes "step") command w.0 (step_line text command w.1)
        | inr h4 ↦ elim (choice_found (is_text keyword (codes "undo")) (option_map undo (read_step text)) _ command h4) [
          | inl w ↦ by_word keyword text (codes "undo") command w.0 (undo_line text command w.1)
          | inr h5 ↦ elim (choice_found (is_text keyword (codes "plan")) (option_map plan (read_step text)) _ command h5) [
            | inl w ↦ by_word keyword text (codes "plan") command w.0 (plan_line text command w.1)
            | inr h6 ↦ elim (choice_found (is_text keyword (codes "rollback")) (option_map rollback (read_step text)) _ command h6) [
              | inl w ↦ by_word keyword text (codes "rollback") command w.0 (rollback_line text command w.1)
              | inr h7 ↦ elim (choice_found (is_text keyword (codes "hold")) (option_map hold (read_step text)) _ command h7) [
                | inl w ↦ by_word keyword text (codes "hold") command w.0 (hold_line text command w.1)
                | inr h8 ↦ elim (choice_found (is_text keyword (codes "drive")) (option_map drive (count_in text)) _ command h8) [
                  | inl w ↦ by_word keyword text (codes "drive") command w.0 (drive_line text command w.1)
                  | inr h9 ↦ elim (choice_found (is_text keyword (codes "work")) (work_of text) _ command h9) [
                    | inl w ↦ by_word keyword text (codes "work") command w.0 (work_line text command w.1)
                    | inr h10 ↦ elim (choice_found (is_text keyword (codes "show")) (option_map show (read_thread text)) _ command h10) [
                      | inl w ↦ by_word keyword text (codes "show") command w.0 (show_line text command w.1)
                      | inr h11 ↦ cc
                    ]
                  ]
                ]
              ]
            ]
          ]
        ]
      ]
    ]
  ]
]

text_says : (text : List ℕ) (command : CommandView) → words_command text ≡ Some command → IsProperCommand command × (text ≡ line_of command)
text_says text command h = elim (choice_found (is_text text (codes "items")) (Some items) _ command h) [
  | inl w ↦ subst (λ (s : CommandView). IsProperCommand s × (text ≡ line_of s)) (same_some items command w.1) (tt, (bytes_decides text (codes "items")).0 w.0)
  | inr h1 ↦ elim (choice_found (is_text text (codes "history")) (Some history) _ command h1) [
    | inl w ↦ subst (λ (s : CommandView). IsProperCommand s × (text ≡ line_of s)) (same_some history command w.1) (tt, (bytes_decides text (codes "history")).0 w.0)
    | inr h2 ↦ elim (choice_found (is_text text (codes "settle")) (Some settle) _ command h2) [
      | inl w ↦ subst (λ (s : CommandView). IsProperCommand s × (text ≡ line_of s)) (same_some settle command w.1) (tt, (bytes_decides text (codes "settle")).0 w.0)
      | inr h3 ↦ elim (choice_found (is_text text (codes "held")) (Some held) _ command h3) [
        | inl w ↦ subst (λ (s : CommandView). IsProperCommand s × (text ≡ line_of s)) (same_some held command w.1) (tt, (bytes_decides text (codes "held")).0 w.0)
        | inr h4 ↦
            let cut = bind_found (cut_at 32 text) _ command h4 in
            let says = command_says cut.0.0 cut.0.1 command cut.2 in
            (says.0, (cut_back 32 text cut.0 cut.1).0 ∙ says.1)
      ]
    ]
  ]
]

pub line_is_spelled : LineIsSpelled
line_is_spelled line command h = elim (choice_found (is_utf8 line) (text_command line) None command h) [
  | inl w ↦ elim (choice_found (is_one_line line) (words_command line) None command w.1) [
    | inl o ↦ let says = text_says line command o.1 in (w.0, o.0, says.0, says.1)
    | inr k ↦ cc
  ]
  | inr k ↦ cc
]
