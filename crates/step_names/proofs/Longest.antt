-- How long a name can be.
use Rattle.std.proofs.Common.{arith, zero, suc, ◌≡◌, ℕ, ◌+◌, ◌*◌, ◌^◌, ◌<◌, ◌≤◌, inl, inr, true, List, [], ◌∷◌, replicate, length, length-append, refl, ap, ◌∙◌}
use Rattle.std.specs.List.{flat_map, list_all}
use Rattle.std.specs.Fmt.{decimal}
use Rattle.std.proofs.lemmas.Bool.{and_parts, cases_lt}
use Rattle.std.proofs.lemmas.Fmt.{digits_decimal, digits_value-decimal}
use Rattle.std.proofs.lemmas.Str.Parse.{digits_value_short}
use Rattle.step_names.specs.Thread.{Thread, IsThread, is_branch}
use Rattle.step_names.specs.declared.step.StepName.{StepName}
use Rattle.step_names.specs.Written.{branch_text, thread_text}
use Rattle.step_names.specs.Laws.{ThreadTextIsBounded, StepTextIsBounded, LongestThread, LongestStep}
use Rattle.step_names.proofs.Numbers.{own}
use Rattle.step_names.proofs.Digits.{few_digits}
use Rattle.step_names.proofs.Spelling.{is_branch_parts, is_name_parts}

length-branch_text : (branch : ℕ × ℕ) → length (branch_text branch) ≡ 2 + length (decimal branch.0) + length (decimal branch.1)
length-branch_text branch = omega (arith, length-append (decimal branch.0) (46 ∷ decimal branch.1))

path_text_bound : (path : List (ℕ × ℕ)) → list_all is_branch path ≡ true → length (flat_map branch_text path) ≤ 22 * length path
path_text_bound [] h = omega arith
path_text_bound (branch ∷ path) h =
    let s = and_parts (is_branch branch) (list_all is_branch path) h in
    let kept = is_branch_parts branch s.0 in
    omega (arith, length-append (branch_text branch) (flat_map branch_text path), length-branch_text branch, few_digits branch.0 kept.1, few_digits branch.1 kept.2, path_text_bound path s.1)

pub thread_text_bound : ThreadTextIsBounded
thread_text_bound thread kept =
    let name = is_name_parts thread.exec kept.named in
    omega (arith, length-append thread.exec (flat_map branch_text thread.path), path_text_bound thread.path kept.branches, kept.depth)

pub step_text_bound : StepTextIsBounded
step_text_bound step kept =
    omega (arith, length-append (thread_text step.thread) (35 ∷ decimal step.no), thread_text_bound step.thread kept.thread_kept, few_digits step.no kept.number)

-- ---- a name of that length

ten_digits : length (decimal 4294967295) ≡ 10
ten_digits = elim (cases_lt (length (decimal 4294967295)) 10) [
  | inl less ↦ absurd (short (omega arith))
  | inr more ↦ omega (arith, few_digits 4294967295 (omega arith))
]
  where
    short : length (decimal 4294967295) ≤ 9 → ⊥
    short h =
        let value = digits_value_short own (decimal 4294967295) 9 (digits_decimal own 4294967295 (omega arith)) h in
        let small : 4294967295 < 10 ^ 9 = rw (digits_value-decimal own 4294967295 (omega arith)) at value in
        omega arith

long_path : ℕ → List (ℕ × ℕ)
long_path n = replicate n (4294967295, 4294967295)

length-long_path : (n : ℕ) → length (flat_map branch_text (replicate n (4294967295, 4294967295))) ≡ n * 22
length-long_path zero = refl
length-long_path (suc n) =
    omega (arith, length-append (branch_text (4294967295, 4294967295)) (flat_map branch_text (replicate n (4294967295, 4294967295))), length-branch_text (4294967295, 4294967295), ten_digits, length-long_path n)

abbrev long_thread : Thread
long_thread = record { exec = replicate 64 97; path = replicate 31 (4294967295, 4294967295) }

long_thread_kept : IsThread long_thread
long_thread_kept = record { named = refl; depth = omega arith; branches = refl }

long_thread_text : length (thread_text long_thread) ≡ 746
long_thread_text = length-append (replicate 64 97) (flat_map branch_text (replicate 31 (4294967295, 4294967295))) ∙ ap (λ (n : ℕ). 64 + n) (length-long_path 31)

pub longest_thread : LongestThread
longest_thread = (long_thread, long_thread_kept, long_thread_text)

pub longest_step : LongestStep
longest_step =
    let step : StepName = record { thread = long_thread; no = 4294967295 } in
    (step, record { thread_kept = long_thread_kept; number = omega arith }, omega (arith, length-append (thread_text long_thread) (35 ∷ decimal 4294967295), long_thread_text, ten_digits))
