-- A step is read as a thread and a number.
use Rattle.std.proofs.Common.{◌≡◌, ℕ, List, [], ◌∷◌, refl, sym, ap, ◌∙◌, ◌==◌, ◌↔◌, Option, Some, None}
use Rattle.std.specs.Option.{option_map, option_and_then}
use Rattle.std.specs.List.{slice_split}
use Rattle.std.proofs.lemmas.List.Splits.{join_with_byte-slice_split}
use Rattle.step_names.specs.Thread.{Thread}
use Rattle.step_names.specs.declared.step.StepName.{StepName}
use Rattle.step_names.specs.Grammar.{read_step_number, read_thread, read_step, read_step_parts}
use Rattle.step_names.proofs.Paths.{no_parts, number_whole}

abbrev pub step_of : List ℕ → List ℕ → Option StepName
step_of thread number = option_and_then (λ t. option_map (λ n. record { thread = t; no = n }) (read_step_number number)) (read_thread thread)

pub no_number : (thread number : List ℕ) → read_step_number number ≡ None → step_of thread number ≡ None
no_number thread number h = rw h (neither (read_thread thread))
  where
    neither : (o : Option Thread) → option_and_then {T = Thread} {U = StepName} (λ t. None) o ≡ None
    neither None = refl
    neither (Some t) = refl

step_by : (thread number : List ℕ) (parts : List (List ℕ)) → slice_split (λ b. b == 35) number ≡ parts → read_step_parts (thread ∷ parts) ≡ step_of thread number
step_by thread number [] h = absurd (no_parts 35 number h)
step_by thread number (part ∷ []) h =
    let e : part ≡ number = rw h at (join_with_byte-slice_split 35 number) in
    ap (λ (text : List ℕ). step_of thread text) e
step_by thread number (part ∷ more ∷ parts) h = by_number (read_step_number number) refl
  where
    by_number : (o : Option ℕ) → read_step_number number ≡ o → None ≡ step_of thread number
    by_number None e = sym (no_number thread number e)
    by_number (Some n) e = let whole : slice_split (λ b. b == 35) number ≡ number ∷ [] = number_whole 35 number n refl e in cc

pub step_cut : (bs thread number : List ℕ) → slice_split (λ b. b == 35) bs ≡ thread ∷ slice_split (λ b. b == 35) number → read_step bs ≡ step_of thread number
step_cut bs thread number h = ap read_step_parts h ∙ step_by thread number (slice_split (λ b. b == 35) number) refl

-- with its number read, it hangs on the thread
pub step_with : (thread number : List ℕ) (n : ℕ) → read_step_number number ≡ Some n → step_of thread number ≡ option_map (λ t. record { thread = t; no = n }) (read_thread thread)
step_with thread number n h = rw h

pub step_none : (thread number : List ℕ) (n : ℕ) → read_step_number number ≡ Some n → (read_thread thread ≡ None) ↔ (step_of thread number ≡ None)
step_none thread number n h = rw h (by_thread (read_thread thread))
  where
    by_thread : (o : Option Thread) → (o ≡ None) ↔ (option_map {U = StepName} (λ t. record { thread = t; no = n }) o ≡ None)
    by_thread None = (λ e. refl, λ e. refl)
    by_thread (Some t) = (λ e. cc, λ e. cc)
