-- What `parse` and `decimal` say of the numbers in a name.
use Rattle.std.proofs.Common.{arith, zero, suc, get_or, ◌<◌, ◌^◌, ◌≡◌, ◌≢◌, ℕ, Bool, true, false, not, cond, ◌&&◌, ◌||◌, List, [], ◌∷◌, refl, sym, ap, ◌∙◌, subst, length, nat_lt, ◌==◌, eqb-true, eq-eqb, Some, None, Result, Ok, Err}
use Rattle.std.specs.Result.{result_ok}
use Rattle.std.specs.Str.{all_ascii_digits}
use Rattle.std.specs.Str.Parse.{digits_value, ParsesUnsigned}
use Rattle.std.specs.Fmt.{decimal}
use Rattle.std.proofs.lemmas.Bool.{and_parts, and_from, ltb-true, lt-ltb}
use Rattle.std.proofs.lemmas.Str.Parse.{IsNumeralModel, numerals_by_value, tells_all_ascii_digits, parse_plain}
use Rattle.std.proofs.lemmas.Fmt.{digits_decimal, digits_value-decimal, decimal-digits_value, decimal_nonempty, decimal_digit, first_decimal}
use Rattle.step_names.specs.Grammar.{is_numeral, read_step_number}

pub own : IsNumeralModel (λ ds. all_ascii_digits ds ≡ true) (digits_value 10)
own = numerals_by_value (λ ds. all_ascii_digits ds ≡ true) tells_all_ascii_digits

-- a text of digits with no leading zero
pub numeral_parts : (ds : List ℕ) → is_numeral ds ≡ true → (all_ascii_digits ds ≡ true) × (0 < length ds) × (get_or ds 0 0 ≡ 48 → length ds ≡ 1)
numeral_parts [] h = cc
numeral_parts (d ∷ ds) h =
    let s = and_parts (all_ascii_digits (d ∷ ds)) (not (d == 48) || (length ds == 0)) h in
    (s.0, omega arith, λ e. ap suc (alone d (length ds) e s.1))
  where
    alone : (d n : ℕ) → d ≡ 48 → not (d == 48) || (n == 0) ≡ true → n ≡ 0
    alone d n e k = eqb-true n 0 (rw (eq-eqb d 48 e) at k)

pub numeral_from : (ds : List ℕ) → all_ascii_digits ds ≡ true → 0 < length ds → (get_or ds 0 0 ≡ 48 → length ds ≡ 1) → is_numeral ds ≡ true
numeral_from [] h l k = absurd (omega arith)
numeral_from (d ∷ ds) h l k = and_from (all_ascii_digits (d ∷ ds)) (not (d == 48) || (length ds == 0)) h (alone (d == 48) refl)
  where
    alone : (b : Bool) → (d == 48) ≡ b → not (d == 48) || (length ds == 0) ≡ true
    alone true e = rw (e, eq-eqb (length ds) 0 (omega (arith, k (eqb-true d 48 e))))
    alone false e = rw e

if_none : (b : Bool) (x : ℕ) → (b ≡ true → ⊥) → cond b (Some x) None ≡ None
if_none true x h = absurd (h refl)
if_none false x h = refl

pub number_some : (ds : List ℕ) → is_numeral ds ≡ true → digits_value 10 ds < 2 ^ 32 → read_step_number ds ≡ Some (digits_value 10 ds)
number_some ds h l = rw (h, lt-ltb (digits_value 10 ds) (2 ^ 32) l)

pub number_none : (ds : List ℕ) → (is_numeral ds ≡ true → digits_value 10 ds < 2 ^ 32 → ⊥) → read_step_number ds ≡ None
number_none ds h =
    if_none (is_numeral ds && nat_lt (digits_value 10 ds) (2 ^ 32)) (digits_value 10 ds)
    (λ e. let s = and_parts (is_numeral ds) (nat_lt (digits_value 10 ds) (2 ^ 32)) e in h s.0 (ltb-true (digits_value 10 ds) (2 ^ 32) s.1))

if_some : (b : Bool) (x n : ℕ) → cond b (Some x) None ≡ Some n → (b ≡ true) × (x ≡ n)
if_some true x n h = (refl, cc)
if_some false x n h = cc

pub number_parts : (ds : List ℕ) (n : ℕ) → read_step_number ds ≡ Some n → (is_numeral ds ≡ true) × (digits_value 10 ds ≡ n) × (n < 2 ^ 32)
number_parts ds n h =
    let p = if_some (is_numeral ds && nat_lt (digits_value 10 ds) (2 ^ 32)) (digits_value 10 ds) n h in
    let s = and_parts (is_numeral ds) (nat_lt (digits_value 10 ds) (2 ^ 32)) p.0 in
    let l : digits_value 10 ds < 2 ^ 32 = ltb-true (digits_value 10 ds) (2 ^ 32) s.1 in
    (s.0, p.1, subst (λ (m : ℕ). m < 2 ^ 32) p.1 l)

-- the number's one spelling
pub number_reads : (n : ℕ) → n < 2 ^ 32 → read_step_number (decimal n) ≡ Some n
number_reads n h =
    let value = digits_value-decimal own n (omega arith) in
    number_some (decimal n) (numeral_from (decimal n) (digits_decimal own n (omega arith)) (decimal_nonempty n (omega arith)) (zero_alone n h)) (rw value h) ∙ ap (λ (m : ℕ). Some m) value
  where
    zero_alone : (n : ℕ) → n < 2 ^ 32 → get_or (decimal n) 0 0 ≡ 48 → length (decimal n) ≡ 1
    zero_alone zero h e = ap length (decimal_digit 0 (omega arith))
    zero_alone (suc n) h e = absurd (omega (arith, first_decimal (suc n) (omega arith) (omega arith)))

pub number_writes : (ds : List ℕ) (n : ℕ) → read_step_number ds ≡ Some n → decimal n ≡ ds
number_writes ds n h =
    let p = number_parts ds n h in
    let s = numeral_parts ds p.0 in
    subst (λ (m : ℕ). decimal m ≡ ds) p.1 (decimal-digits_value own ds s.0 s.1 s.2 (omega (arith, p.1, p.2)))

-- what `parse` gives of a text that begins with no sign and no zero
pub number_parsed : {E : Type 0} (bs : List ℕ) (r : Result ℕ E) → ParsesUnsigned 32 10 bs r → get_or bs 0 0 ≢ 43 → get_or bs 0 0 ≢ 48 → result_ok r ≡ read_step_number bs
number_parsed {E} bs (Ok n) h plus not_zero =
    let p = parse_plain own {E = E} 32 bs (Ok n) h plus in
    ap (λ (m : ℕ). Some m) p.1 ∙ sym (number_some bs (numeral_from bs p.0.0 p.0.1 (λ e. absurd (not_zero e))) p.0.2)
number_parsed {E} bs (Err e) h plus not_zero =
    let p = parse_plain own {E = E} 32 bs (Err e) h plus in
    sym (number_none bs (λ i l. let s = numeral_parts bs i in p (s.0, s.1, l)))

pub zero_read : (bs : List ℕ) → get_or bs 0 0 ≡ 48 → length bs ≡ 1 → read_step_number bs ≡ Some 0
zero_read [] e l = absurd (omega arith)
zero_read (b ∷ []) e l = rw e
zero_read (b ∷ c ∷ bs) e l = absurd (omega arith)
