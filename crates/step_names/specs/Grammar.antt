-- What a text names: NAME {`/` NUM `.` NUM} is a thread, and with `#` NUM after it a step.
use Rattle.std.specs.Prelude.{ℕ, ◌^◌, Bool, false, ◌&&◌, ◌||◌, not, List, [], ◌∷◌, length, nat_lt, nat_le, ◌==◌, if◌then◌else◌, Option, None, Some}
use Rattle.std.specs.Option.{option_map, option_and_then}
use Rattle.std.specs.List.{slice_split}
use Rattle.std.specs.Str.{all_ascii_digits}
use Rattle.std.specs.Str.Parse.{digits_value}
use Rattle.step_names.specs.Thread.{Thread, is_name}
use Rattle.step_names.specs.declared.step.StepName.{StepName}

-- digits, the first of them no 0 unless it stands alone
abbrev pub is_numeral : List ℕ → Bool
is_numeral [] = false
is_numeral (d ∷ ds) = all_ascii_digits (d ∷ ds) && (not (d == 48) || length ds == 0)

-- NUM: such digits, of a number that fits 32 bits
abbrev pub read_step_number : List ℕ → Option ℕ
read_step_number digits = if is_numeral digits && nat_lt (digits_value 10 digits) (2 ^ 32) then Some (digits_value 10 digits) else None

-- NUM `.` NUM, cut at each point; the first is not 0
abbrev pub read_branch_parts : List (List ℕ) → Option (ℕ × ℕ)
read_branch_parts [] = None
read_branch_parts (fork ∷ []) = None
read_branch_parts (fork ∷ branch ∷ []) =
    option_and_then (λ n. option_and_then (λ i. if n == 0 then None else Some (n, i)) (read_step_number branch)) (read_step_number fork)
read_branch_parts (fork ∷ branch ∷ more ∷ parts) = None

abbrev pub read_branch : List ℕ → Option (ℕ × ℕ)
read_branch text = read_branch_parts (slice_split (λ b. b == 46) text)

-- every one of them, or nothing
abbrev pub read_branches : List (List ℕ) → Option (List (ℕ × ℕ))
read_branches [] = Some []
read_branches (text ∷ texts) = option_and_then (λ branch. option_map (λ path. branch ∷ path) (read_branches texts)) (read_branch text)

-- at most 31 branches
abbrev pub read_path : List (List ℕ) → Option (List (ℕ × ℕ))
read_path texts = if nat_le (length texts) 31 then read_branches texts else None

-- NAME and branches, cut at each `/`
abbrev pub read_thread_parts : List (List ℕ) → Option Thread
read_thread_parts [] = None
read_thread_parts (exec ∷ branches) =
    if is_name exec then option_map (λ path. record { exec = exec; path = path }) (read_path branches) else None

abbrev pub read_thread : List ℕ → Option Thread
read_thread text = read_thread_parts (slice_split (λ b. b == 47) text)

-- a thread and NUM, cut at each `#`
abbrev pub read_step_parts : List (List ℕ) → Option StepName
read_step_parts [] = None
read_step_parts (thread ∷ []) = None
read_step_parts (thread ∷ number ∷ []) =
    option_and_then (λ t. option_map (λ n. record { thread = t; no = n }) (read_step_number number)) (read_thread thread)
read_step_parts (thread ∷ number ∷ more ∷ parts) = None

abbrev pub read_step : List ℕ → Option StepName
read_step text = read_step_parts (slice_split (λ b. b == 35) text)
