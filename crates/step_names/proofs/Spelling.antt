-- A name's one spelling: what is written is read as it was, and what is read is written as it was.
use Rattle.std.proofs.Common.{arith, ◌≡◌, ℕ, ◌^◌, ◌<◌, ◌≤◌, true, false, not, ◌==◌, List, [], ◌∷◌, ◌++◌, map, length, append-nil, refl, ap, ap₂, sym, subst, ◌∙◌, Option, Some, None, nat_le}
use Rattle.std.specs.Option.{option_map, option_and_then}
use Rattle.std.specs.List.{flat_map, slice_split, list_all, join_with_byte}
use Rattle.std.specs.Fmt.{decimal}
use Rattle.std.specs.Char.{is_ascii_digit}
use Rattle.std.proofs.lemmas.Bool.{and_parts, and_from, leb-true, le-leb, ltb-true}
use Rattle.std.proofs.lemmas.List.{length-map}
use Rattle.std.proofs.lemmas.List.Splits.{join_with_byte-slice_split}
use Rattle.std.proofs.lemmas.Fmt.{digits_decimal}
use Rattle.step_names.specs.Thread.{Thread, IsThread, IsStep, is_name, is_name_byte, is_branch}
use Rattle.step_names.specs.declared.step.StepName.{StepName}
use Rattle.step_names.specs.Written.{branch_text, thread_text, step_text}
use Rattle.step_names.specs.Grammar.{read_step_number, read_branch, read_branch_parts, read_branches, read_thread, read_thread_parts, read_step, read_step_parts}
use Rattle.step_names.specs.Laws.{ThreadReadsBack, ThreadWritesBack, ThreadTextIsOne, StepReadsBack, StepWritesBack, StepTextIsOne}
use Rattle.step_names.proofs.Parts.{lacks, lacks_split, lacks_split_at, lacks-append, passing_lacks, digits_lack}
use Rattle.step_names.proofs.Numbers.{own, number_reads, number_writes, number_parts}
use Rattle.step_names.proofs.Paths.{branch_cut, both_some}
use Rattle.step_names.proofs.Bounds.{branch_parts, branch_then, path_then, path_if, thread_parts, read_bounds}
use Rattle.step_names.proofs.Steps.{step_cut}

-- ---- from the name to its text and back

-- a branch's text after its `/`
abbrev pub branch_body : ℕ × ℕ → List ℕ
branch_body branch = decimal branch.0 ++ 46 ∷ decimal branch.1

pub is_name_parts : (bytes : List ℕ) → is_name bytes ≡ true → (1 ≤ length bytes) × (length bytes ≤ 64) × (list_all is_name_byte bytes ≡ true)
is_name_parts bytes h =
    let s = and_parts _ _ h in
    let t = and_parts _ _ s.1 in
    (leb-true _ _ s.0, leb-true _ _ t.0, t.1)

pub decimal_lacks : (c n : ℕ) → is_ascii_digit c ≡ false → n < 2 ^ 32 → lacks c (decimal n) ≡ true
decimal_lacks c n h l = digits_lack c (decimal n) h (digits_decimal own n (omega arith))

pub is_branch_parts : (branch : ℕ × ℕ) → is_branch branch ≡ true → (1 ≤ branch.0) × (branch.0 < 2 ^ 32) × (branch.1 < 2 ^ 32)
is_branch_parts branch h =
    let s = and_parts _ _ h in
    let t = and_parts _ _ s.1 in
    (leb-true _ _ s.0, ltb-true _ _ t.0, ltb-true _ _ t.1)

body_lacks : (c : ℕ) (branch : ℕ × ℕ) → is_ascii_digit c ≡ false → not (46 == c) ≡ true → is_branch branch ≡ true → lacks c (branch_body branch) ≡ true
body_lacks c branch digit point h =
    let s = is_branch_parts branch h in
    lacks-append c (decimal branch.0) (46 ∷ decimal branch.1) (decimal_lacks c branch.0 digit s.1)
    (and_from (not (46 == c)) (lacks c (decimal branch.1)) point (decimal_lacks c branch.1 digit s.2))

pub split_path : (front : List ℕ) (path : List (ℕ × ℕ)) → lacks 47 front ≡ true → list_all is_branch path ≡ true
    → slice_split (λ b. b == 47) (front ++ flat_map branch_text path) ≡ front ∷ map branch_body path
split_path front [] h k = ap (slice_split (λ b. b == 47)) (append-nil front) ∙ lacks_split 47 front h
split_path front (branch ∷ path) h k =
    let s = and_parts (is_branch branch) (list_all is_branch path) k in
    lacks_split_at 47 front (branch_body branch ++ flat_map branch_text path) h
    ∙ ap (λ (parts : List (List ℕ)). front ∷ parts) (split_path (branch_body branch) path (body_lacks 47 branch refl refl s.0) s.1)

pub branch_reads : (branch : ℕ × ℕ) → is_branch branch ≡ true → read_branch (branch_body branch) ≡ Some branch
branch_reads branch h =
    let s = is_branch_parts branch h in
    branch_cut (branch_body branch) (decimal branch.0) (decimal branch.1) (lacks_split_at 46 (decimal branch.0) (decimal branch.1) (decimal_lacks 46 branch.0 refl s.1))
    ∙ both_some (decimal branch.0) (decimal branch.1) branch.0 branch.1 (number_reads branch.0 s.1) (number_reads branch.1 s.2) (λ e. omega arith)

pub branches_read : (path : List (ℕ × ℕ)) → list_all is_branch path ≡ true → read_branches (map branch_body path) ≡ Some path
branches_read [] h = refl
branches_read (branch ∷ path) h =
    let s = and_parts (is_branch branch) (list_all is_branch path) h in
    rw (branch_reads branch s.0, branches_read path s.1)

pub thread_reads : ThreadReadsBack
thread_reads thread kept =
    let name = is_name_parts thread.exec kept.named in
    ap read_thread_parts (split_path thread.exec thread.path (passing_lacks is_name_byte 47 thread.exec refl name.2) kept.branches)
    ∙ rw (kept.named, length-map, le-leb (length thread.path) 31 kept.depth, branches_read thread.path kept.branches)

pub branch_text_lacks : (branch : ℕ × ℕ) → is_branch branch ≡ true → lacks 35 (branch_text branch) ≡ true
branch_text_lacks branch h = body_lacks 35 branch refl refl h

pub path_text_lacks : (path : List (ℕ × ℕ)) → list_all is_branch path ≡ true → lacks 35 (flat_map branch_text path) ≡ true
path_text_lacks [] h = refl
path_text_lacks (branch ∷ path) h =
    let s = and_parts (is_branch branch) (list_all is_branch path) h in
    lacks-append 35 (branch_text branch) (flat_map branch_text path) (branch_text_lacks branch s.0) (path_text_lacks path s.1)

pub thread_text_lacks : (thread : Thread) → IsThread thread → lacks 35 (thread_text thread) ≡ true
thread_text_lacks thread kept =
    let name = is_name_parts thread.exec kept.named in
    lacks-append 35 thread.exec (flat_map branch_text thread.path) (passing_lacks is_name_byte 35 thread.exec refl name.2) (path_text_lacks thread.path kept.branches)

pub step_reads : StepReadsBack
step_reads step kept =
    step_cut (step_text step) (thread_text step.thread) (decimal step.no) (lacks_split_at 35 (thread_text step.thread) (decimal step.no) (thread_text_lacks step.thread kept.thread_kept))
    ∙ rw (thread_reads step.thread kept.thread_kept, number_reads step.no kept.number)

-- ---- from the text to the name and back

pub branch_parts_write : (text : List ℕ) (parts : List (List ℕ)) (branch : ℕ × ℕ) → slice_split (λ b. b == 46) text ≡ parts → read_branch_parts parts ≡ Some branch → branch_body branch ≡ text
branch_parts_write text [] branch e h = cc
branch_parts_write text (fork ∷ []) branch e h = cc
branch_parts_write text (fork ∷ index ∷ more ∷ parts) branch e h = cc
branch_parts_write text (fork ∷ index ∷ []) branch e h =
    let s = branch_parts fork index branch h in
    let joined : fork ++ 46 ∷ index ≡ text = rw e at (join_with_byte-slice_split 46 text) in
    rw (number_writes fork branch.0 s.0, number_writes index branch.1 s.1) joined

pub branch_writes : (text : List ℕ) (branch : ℕ × ℕ) → read_branch text ≡ Some branch → branch_body branch ≡ text
branch_writes text branch h = branch_parts_write text (slice_split (λ b. b == 46) text) branch refl h

abbrev pub after_slash : List ℕ → List ℕ
after_slash text = 47 ∷ text

pub branches_write : (texts : List (List ℕ)) (path : List (ℕ × ℕ)) → read_branches texts ≡ Some path → flat_map branch_text path ≡ flat_map after_slash texts
branches_write [] path h = let e : [] ≡ path = cc in ap (flat_map branch_text) (sym e)
branches_write (text ∷ texts) path h =
    let s = branch_then (read_branch text) (λ branch. option_map (λ more. branch ∷ more) (read_branches texts)) path h in
    let t = path_then (read_branches texts) (λ more. s.0 ∷ more) path s.2 in
    ap (flat_map branch_text) (sym t.2)
    ∙ ap₂ (λ (one more : List ℕ). 47 ∷ (one ++ more)) (branch_writes text s.0 s.1) (branches_write texts t.0 t.1)

pub joined_by_slash : (exec : List ℕ) (texts : List (List ℕ)) → join_with_byte 47 (exec ∷ texts) ≡ exec ++ flat_map after_slash texts
joined_by_slash exec [] = sym (append-nil exec)
joined_by_slash exec (text ∷ texts) = ap (λ (more : List ℕ). exec ++ 47 ∷ more) (joined_by_slash text texts)

pub thread_parts_write : (text : List ℕ) (parts : List (List ℕ)) (thread : Thread) → slice_split (λ b. b == 47) text ≡ parts → read_thread_parts parts ≡ Some thread → thread_text thread ≡ text
thread_parts_write text [] thread e h = cc
thread_parts_write text (exec ∷ texts) thread e h =
    let s = thread_parts exec texts thread h in
    let path = path_if (nat_le (length texts) 31) (read_branches texts) thread.path s.2 in
    let joined : join_with_byte 47 (exec ∷ texts) ≡ text = rw e at (join_with_byte-slice_split 47 text) in
    ap₂ (λ (bytes more : List ℕ). bytes ++ more) s.1 (branches_write texts thread.path path.1) ∙ sym (joined_by_slash exec texts) ∙ joined

pub thread_writes : ThreadWritesBack
thread_writes text thread h = (read_bounds text thread h, thread_parts_write text (slice_split (λ b. b == 47) text) thread refl h)

thread_found : (o : Option Thread) (f : Thread → Option StepName) (step : StepName) → option_and_then f o ≡ Some step → (t : Thread) × (o ≡ Some t) × (f t ≡ Some step)
thread_found None f step h = cc
thread_found (Some t) f step h = (t, refl, h)

number_found : (o : Option ℕ) (f : ℕ → StepName) (step : StepName) → option_map f o ≡ Some step → (n : ℕ) × (o ≡ Some n) × (f n ≡ step)
number_found None f step h = cc
number_found (Some n) f step h = (n, refl, cc)

pub step_parts_write : (text : List ℕ) (parts : List (List ℕ)) (step : StepName) → slice_split (λ b. b == 35) text ≡ parts → read_step_parts parts ≡ Some step → IsStep step.thread step.no × (step_text step ≡ text)
step_parts_write text [] step e h = cc
step_parts_write text (thread ∷ []) step e h = cc
step_parts_write text (thread ∷ number ∷ more ∷ parts) step e h = cc
step_parts_write text (thread ∷ number ∷ []) step e h =
    let s = thread_found (read_thread thread) (λ t. option_map (λ n. record { thread = t; no = n }) (read_step_number number)) step h in
    let t = number_found (read_step_number number) (λ n. record { thread = s.0; no = n }) step s.2 in
    let joined : thread ++ 35 ∷ number ≡ text = rw e at (join_with_byte-slice_split 35 text) in
    let kept = thread_writes thread s.0 s.1 in
    subst (λ (name : StepName). IsStep name.thread name.no × (step_text name ≡ text)) t.2
    (record { thread_kept = kept.0; number = (number_parts number t.0 t.1).2 }, rw (kept.1, number_writes number t.0 t.1) joined)

pub step_writes : StepWritesBack
step_writes text step h = step_parts_write text (slice_split (λ b. b == 35) text) step refl h

-- ---- and so one text is one name

same_some : {A : Type 0} (a b : A) (o : Option A) → o ≡ Some a → o ≡ Some b → a ≡ b
same_some a b o h k = cc

pub thread_text_is_one : ThreadTextIsOne
thread_text_is_one a b kept other h = same_some a b (read_thread (thread_text a)) (thread_reads a kept) (ap read_thread h ∙ thread_reads b other)

pub step_text_is_one : StepTextIsOne
step_text_is_one a b kept other h = same_some a b (read_step (step_text a)) (step_reads a kept) (ap read_step h ∙ step_reads b other)
