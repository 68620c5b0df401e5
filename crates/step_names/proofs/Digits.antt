-- How long a number's digits are.
use Rattle.std.proofs.Common.{arith, ◌≡◌, ℕ, ◌+◌, ◌/◌, ◌%◌, ◌^◌, ◌<◌, ◌≤◌, List, [], ◌∷◌, ◌++◌, length, length-append, append_assoc, ap, sym, ◌∙◌}
use Rattle.std.specs.Fmt.{decimal}
use Rattle.std.proofs.lemmas.Fmt.{decimal_digit, decimal_step, length-decimal-le, decimal_nonempty}

pub one_digit : (n : ℕ) → n < 10 → length (decimal n) ≡ 1
one_digit n h = ap length (decimal_digit n h)

pub more_digits : (n : ℕ) → 10 ≤ n → n < 2 ^ 32 → length (decimal n) ≡ length (decimal (n / 10)) + 1
more_digits n h l = ap length (decimal_step n h (omega arith)) ∙ length-append (decimal (n / 10)) ((48 + n % 10) ∷ [])

pub few_digits : (n : ℕ) → n < 2 ^ 32 → length (decimal n) ≤ 10
few_digits n h = length-decimal-le 10 n (omega arith) (omega arith) (omega arith)

pub some_digits : (n : ℕ) → n < 2 ^ 32 → 1 ≤ length (decimal n)
some_digits n h = decimal_nonempty n (omega arith)

pub last_digit : (n : ℕ) → 10 ≤ n → n < 2 ^ 32 → decimal n ≡ decimal (n / 10) ++ ((48 + n % 10) ∷ [])
last_digit n h l = decimal_step n h (omega arith)

pub only_digit : (n : ℕ) → n < 10 → decimal n ≡ (48 + n % 10) ∷ []
only_digit n h = decimal_digit n h ∙ ap (λ (m : ℕ). (48 + m) ∷ []) (omega arith)

-- the last digit goes after those of the front
pub after_front : (out front new : List ℕ) (n : ℕ) → 10 ≤ n → n < 2 ^ 32 → front ≡ out ++ decimal (n / 10) → new ≡ front ++ (48 + n % 10) ∷ [] → new ≡ out ++ decimal n
after_front out front new n h l e f =
    f ∙ ap (λ (bs : List ℕ). bs ++ (48 + n % 10) ∷ []) e ∙ append_assoc out (decimal (n / 10)) ((48 + n % 10) ∷ []) ∙ ap (λ (bs : List ℕ). out ++ bs) (sym (last_digit n h l))

pub after_none : (out new : List ℕ) (n : ℕ) → n < 10 → new ≡ out ++ (48 + n % 10) ∷ [] → new ≡ out ++ decimal n
after_none out new n h e = e ∙ ap (λ (bs : List ℕ). out ++ bs) (sym (only_digit n h))
