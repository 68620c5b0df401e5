-- The digits of a number's text.
use Rattle.std.proofs.lemmas.Bool.{and_parts}
use Rattle.std.proofs.Common.{◌≡◌, ◌≢◌, ℕ, zero, suc, ◌+◌, ◌-◌, ◌*◌, ◌/◌, ◌%◌, ◌^◌, ◌<◌, ◌≤◌, List, [], ◌∷◌, ◌++◌, length, take, drop, get_or, replicate, refl, sym, ◌∙◌, ap, ap₂, subst, inl, inr, arith, length-append, append-nil, drop-cons, append_assoc}
use Rattle.std.proofs.lemmas.List.{take_all, take_more, drop_all}
use Rattle.std.proofs.Math.Seq.{take-append_seam, drop-append-add}
use borrow.Author.Tests.{ltb-true, leb-true, eq-eqb}
use Rattle.std.specs.Str.Parse.{digits_value_after, digits_value, AllDigits}
use Rattle.std.specs.Prelude.{Bool, true, false, ◌&&◌, ◌==◌, nat_lt, nat_le, if◌then◌else◌, Some, None, ◌⊎◌, unsigned_abs, ℤ, pos, negsuc}
use Rattle.std.specs.Char.{digit_value, is_ascii_digit}
use Rattle.std.specs.List.{list_all, position_or_len, before_first, after_first}
use Rattle.std.proofs.lemmas.List.Folds.{list_all-append}
use Rattle.std.proofs.lemmas.Bool.Decides.{nat_tests}
use Rattle.std.proofs.lemmas.Int.Digits.{digits_value_push}
use Rattle.std.proofs.lemmas.Fmt.{decimal_is_IsNumeral_wide}
use Rattle.std.specs.Fmt.{decimal}
use Rattle.std.proofs.Math.Nat.{mul-mod_left, mod-lt, div-one, div-div-eq-div-mul, pow-succ', div-le_self}
use Rattle.std.proofs.lemmas.Nat.{div-add-mod', mod-mul-add}
use Rattle.attr_values.specs.Decimal.{Decimal, IsNormal}
use Rattle.attr_values.specs.Numeral.{is_point, is_unsigned, shortened, magnitude, in_bounds, decimal_in_bounds, with_sign, decimal_of, read_unsigned, read_number, last_digits, fraction_text, number_text, IsShort, SplitsAtPoint}

digits_value_grows : (n : ℕ) (ds : List ℕ) → n ≤ digits_value_after 10 n ds
digits_value_grows n [] = omega arith
digits_value_grows n (d ∷ ds) = omega (arith, digits_value_grows (n * 10 + digit_value d) ds)

-- one more digit is one too many
pub too_large : (n i : ℕ) (ds : List ℕ) → 10 ^ 37 ≤ n → i < length ds → 10 ^ 38 ≤ digits_value_after 10 n (drop i ds)
too_large n i ds h l =
    let e : drop i ds ≡ get_or ds i 0 ∷ drop (suc i) ds = drop-cons ds i 0 l in
    rw e (omega (arith, digits_value_grows (n * 10 + digit_value (get_or ds i 0)) (drop (suc i) ds)))

last_digit : (kept : List ℕ) → 1 ≤ length kept → kept ≡ take (length kept - 1) kept ++ get_or kept (length kept - 1) 0 ∷ []
last_digit kept h = sym (take_all (length kept - 1 + 1) kept (omega arith)) ∙ take_more kept (length kept - 1) 0 (omega arith)

pub one_zero_more : (digits kept : List ℕ) (k : ℕ) → 1 ≤ length kept → get_or kept (length kept - 1) 0 ≡ 48 → digits ≡ kept ++ replicate k 48
    → (x : ℕ) × (digits ≡ take (length kept - 1) kept ++ replicate x 48)
one_zero_more digits kept k h e f =
    (suc k, f ∙ ap (λ ds. ds ++ replicate k 48) (last_digit kept h ∙ ap (λ d. take (length kept - 1) kept ++ d ∷ []) e) ∙ append_assoc (take (length kept - 1) kept) (48 ∷ []) (replicate k 48))

pub digits_value_after-append : (n : ℕ) (xs ys : List ℕ) → digits_value_after 10 n (xs ++ ys) ≡ digits_value_after 10 (digits_value_after 10 n xs) ys
digits_value_after-append n [] ys = refl
digits_value_after-append n (x ∷ xs) ys = digits_value_after-append (n * 10 + digit_value x) xs ys

digit_value_digit : (d : ℕ) → is_ascii_digit d ≡ true → d ≢ 48 → (0 < digit_value d) × (digit_value d < 10)
digit_value_digit d h n = (grind (arith, nat_tests), grind (arith, nat_tests))

-- a number that ends in a zero is shortened by it
shortened_zero : (n p : ℕ) → shortened (n * 10) (suc p) ≡ shortened n p
shortened_zero n p =
    let rest : n * 10 % 10 ≡ 0 = mul-mod_left n 10 in
    let quotient : n * 10 / 10 ≡ n = omega arith in
    rw (rest, quotient) refl

shortened_zeros : (w f : List ℕ) (k : ℕ) → shortened (digits_value 10 (w ++ (f ++ replicate k 48))) (length (f ++ replicate k 48)) ≡ shortened (digits_value 10 (w ++ f)) (length f)
shortened_zeros w f zero = rw append-nil refl
shortened_zeros w f (suc k) =
    let same : f ++ 48 ∷ replicate k 48 ≡ (f ++ 48 ∷ []) ++ replicate k 48 = sym (append_assoc f (48 ∷ []) (replicate k 48)) in
    let value : digits_value 10 (w ++ (f ++ 48 ∷ [])) ≡ digits_value 10 (w ++ f) * 10 =
    ap (digits_value 10) (sym (append_assoc w f (48 ∷ []))) ∙ digits_value_push 10 (w ++ f) 48 ∙ omega arith in
    let count : length (f ++ 48 ∷ []) ≡ suc (length f) = simp length-append (omega arith) in
    ap (λ ds. shortened (digits_value 10 (w ++ ds)) (length ds)) same ∙ shortened_zeros w (f ++ 48 ∷ []) k
    ∙ ap₂ shortened value count ∙ shortened_zero (digits_value 10 (w ++ f)) (length f)

-- a number that ends in another digit stays
shortened_digit : (n p : ℕ) → 0 < n % 10 → shortened n (suc p) ≡ (n, suc p)
shortened_digit n p h = grind (arith, nat_tests)

last_digit_of : (w start : List ℕ) (d : ℕ) → digit_value d < 10 → digits_value 10 (w ++ (start ++ d ∷ [])) % 10 ≡ digit_value d
last_digit_of w start d h =
    let value : digits_value 10 (w ++ (start ++ d ∷ [])) ≡ digits_value 10 (w ++ start) * 10 + digit_value d =
    ap (digits_value 10) (sym (append_assoc w start (d ∷ []))) ∙ digits_value_push 10 (w ++ start) d in
    ap (λ n. n % 10) value ∙ mod-mul-add (digits_value 10 (w ++ start)) 10 (digit_value d) h

last_is_digit : (start : List ℕ) (d : ℕ) → list_all is_ascii_digit (start ++ d ∷ []) ≡ true → is_ascii_digit d ≡ true
last_is_digit start d h =
    (and_parts (is_ascii_digit d) true (and_parts (list_all is_ascii_digit start) (list_all is_ascii_digit (d ∷ [])) (sym (list_all-append is_ascii_digit start (d ∷ [])) ∙ h)).1).0

-- the digits of a short fraction, and that it has any only where the number ends in no zero
pub short_digit : (w f : List ℕ) → IsShort f → list_all is_ascii_digit f ≡ true → 0 < length f → 0 < digits_value 10 (w ++ f) % 10
short_digit w f (inl e) all h = absurd (omega (arith, ap length e))
short_digit w f (inr e) all h =
    let digit = digit_value_digit e.1 (last_is_digit e.0 e.1 (ap (list_all is_ascii_digit) (sym e.2) ∙ all)) e.3 in
    let value : digits_value 10 (w ++ f) % 10 ≡ digit_value e.1 = ap (λ ds. digits_value 10 (w ++ ds) % 10) e.2 ∙ last_digit_of w e.0 e.1 digit.1 in
    omega arith

shortened_short : (n : ℕ) (f : List ℕ) → (0 < length f → 0 < n % 10) → shortened n (length f) ≡ (n, length f)
shortened_short n [] h = refl
shortened_short n (d ∷ f) h = shortened_digit n (length f) (h (omega arith))

prefix_digits : (f zeros : List ℕ) → list_all is_ascii_digit (f ++ zeros) ≡ true → list_all is_ascii_digit f ≡ true
prefix_digits f zeros h = (and_parts (list_all is_ascii_digit f) (list_all is_ascii_digit zeros) (sym (list_all-append is_ascii_digit f zeros) ∙ h)).0

-- what is read, by the digits before the point and those after it without the last zeros
pub read_is : (negative : Bool) (text w g f : List ℕ) (k : ℕ) → SplitsAtPoint text w g → g ≡ f ++ replicate k 48 → IsShort f
    → (list_all is_ascii_digit f ≡ true) × (0 < length f → 0 < digits_value 10 (w ++ f) % 10) × (read_unsigned negative text ≡ decimal_in_bounds negative (digits_value 10 (w ++ f), length f))
read_is negative text w g f k s e short =
    let digits : list_all is_ascii_digit f ≡ true = prefix_digits f (replicate k 48) (ap (list_all is_ascii_digit) (sym e) ∙ s.fraction_digits) in
    let ends : 0 < length f → 0 < digits_value 10 (w ++ f) % 10 = short_digit w f short digits in
    let is : magnitude text ≡ (digits_value 10 (w ++ f), length f) =
    ap₂ (λ (v g : List ℕ). shortened (digits_value 10 (v ++ g)) (length g)) (sym s.before) (sym s.after ∙ e)
    ∙ shortened_zeros w f k ∙ shortened_short (digits_value 10 (w ++ f)) f ends in
    (digits, ends, rw s.numeral (ap (decimal_in_bounds negative) is))

pub bounded_none : (negative : Bool) (n p : ℕ) → (10 ^ 38 ≤ n) ⊎ (100 < p) → decimal_in_bounds negative (n, p) ≡ None
bounded_none negative n p (inl h) = grind (arith, nat_tests)
bounded_none negative n p (inr h) = grind (arith, nat_tests)

pub bounded_some : (negative : Bool) (n p : ℕ) → n < 10 ^ 38 → p ≤ 100 → decimal_in_bounds negative (n, p) ≡ Some (decimal_of negative (n, p))
bounded_some negative n p h l = grind (arith, nat_tests)

pub both_large : (w f : List ℕ) → (digits_value_after 10 0 w < 10 ^ 38 → ⊥) → digits_value_after 10 0 (w ++ f) < 10 ^ 38 → ⊥
both_large w f h small = h (omega (arith, digits_value_after-append 0 w f, digits_value_grows (digits_value_after 10 0 w) f))

pub magnitude_of_sign : (negative : Bool) (n : ℕ) → unsigned_abs (with_sign negative n) ≡ n
magnitude_of_sign true zero = refl
magnitude_of_sign true (suc n) = refl
magnitude_of_sign false n = refl

-- what is read is in normal form
pub normal_decimal : (negative : Bool) (n p : ℕ) → n < 10 ^ 38 → p ≤ 100 → (0 < p → 0 < n % 10) → IsNormal (decimal_of negative (n, p))
normal_decimal negative n p h l e = record {
  digits = rw magnitude_of_sign h;
  places = l;
  shortest = λ above. rw magnitude_of_sign (λ z. let f = e above in omega arith);
}

-- ---- what is written

written_digit : (n : ℕ) → digit_value (48 + n % 10) ≡ n % 10
written_digit n = let h = mod-lt n {m = 10} (omega arith) in grind (arith, nat_tests)

last_digits_value : (p n : ℕ) → digits_value_after 10 (n / 10 ^ p) (last_digits p n) ≡ n
last_digits_value zero n = div-one n
last_digits_value (suc p) n =
    let quotient : n / 10 ^ suc p ≡ n / 10 / 10 ^ p = ap (λ m. n / m) (pow-succ' 10 p) ∙ sym (div-div-eq-div-mul n 10 (10 ^ p)) in
    let digit : digit_value (48 + n % 10) ≡ n % 10 = written_digit n in
    digits_value_after-append (n / 10 ^ suc p) (last_digits p (n / 10)) ((48 + n % 10) ∷ [])
    ∙ ap₂ (λ m d. m * 10 + d) (ap (λ q. digits_value_after 10 q (last_digits p (n / 10))) quotient ∙ last_digits_value p (n / 10)) digit
    ∙ div-add-mod' n 10

is_digit_char : (n : ℕ) → is_ascii_digit (48 + n % 10) ≡ true
is_digit_char n = let h = mod-lt n {m = 10} (omega arith) in grind (arith, nat_tests)

last_digits_are_digits : (p n : ℕ) → list_all is_ascii_digit (last_digits p n) ≡ true
last_digits_are_digits zero n = refl
last_digits_are_digits (suc p) n = list_all-append is_ascii_digit (last_digits p (n / 10)) ((48 + n % 10) ∷ []) ∙ rw (last_digits_are_digits p (n / 10), is_digit_char n) refl

length-last_digits : (p n : ℕ) → length (last_digits p n) ≡ p
length-last_digits zero n = refl
length-last_digits (suc p) n = simp length-append (omega (arith, length-last_digits p (n / 10)))

digit_is_ascii : (c : ℕ) → digit_value c < 10 → is_ascii_digit c ≡ true
digit_is_ascii c h = grind (arith, nat_tests)

numeral_digits : (ds : List ℕ) → AllDigits 10 ds → list_all is_ascii_digit ds ≡ true
numeral_digits [] h = refl
numeral_digits (d ∷ ds) h = rw (digit_is_ascii d h.0) (numeral_digits ds h.1)

digit_is_no_point : (d : ℕ) → is_ascii_digit d ≡ true → is_point d ≡ false
digit_is_no_point d h = grind (arith, nat_tests)

-- where the point stands after some digits
point_after : (ds rest : List ℕ) → list_all is_ascii_digit ds ≡ true → position_or_len is_point (ds ++ rest) ≡ length ds + position_or_len is_point rest
point_after [] rest h = omega arith
point_after (d ∷ ds) rest h =
    let both = and_parts (is_ascii_digit d) (list_all is_ascii_digit ds) h in
    rw (digit_is_no_point d both.0) (omega (arith, point_after ds rest both.1))

-- a text of digits, and one with a point and digits after it, as they are read
whole_parts : (ds : List ℕ) → list_all is_ascii_digit ds ≡ true → 0 < length ds → (is_unsigned ds ≡ true) × (before_first is_point ds ≡ ds) × (after_first is_point ds ≡ [])
whole_parts ds h some =
    let at : position_or_len is_point ds ≡ length ds = ap (position_or_len is_point) (sym (append-nil ds)) ∙ point_after ds [] h ∙ omega arith in
    let before : before_first is_point ds ≡ ds = rw at (take_all (length ds) ds (omega arith)) in
    let after : after_first is_point ds ≡ [] = rw at (drop_all (length ds + 1) ds (omega arith)) in
    (rw (before, at, h) (grind (arith, nat_tests)), before, after)

point_parts : (ds f : List ℕ) → list_all is_ascii_digit ds ≡ true → 0 < length ds → list_all is_ascii_digit f ≡ true → 0 < length f
    → (is_unsigned (ds ++ 46 ∷ f) ≡ true) × (before_first is_point (ds ++ 46 ∷ f) ≡ ds) × (after_first is_point (ds ++ 46 ∷ f) ≡ f)
point_parts ds f h some g more =
    let at : position_or_len is_point (ds ++ 46 ∷ f) ≡ length ds = point_after ds (46 ∷ f) h ∙ omega arith in
    let before : before_first is_point (ds ++ 46 ∷ f) ≡ ds = rw at (take-append_seam ds (46 ∷ f)) in
    let after : after_first is_point (ds ++ 46 ∷ f) ≡ f = rw at (drop-append-add ds (46 ∷ f) 1) in
    (rw (before, after, h, g) (grind (arith, nat_tests)), before, after)

whole_number_digits : (n : ℕ) → n < 10 ^ 38 → (list_all is_ascii_digit (decimal n) ≡ true) × (0 < length (decimal n)) × (digits_value 10 (decimal n) ≡ n)
whole_number_digits n h =
    let is = decimal_is_IsNumeral_wide n (omega arith) in
    (numeral_digits (decimal n) is.0.1, is.0.0, is.1)

quotient_small : (m p : ℕ) → m < 10 ^ 38 → m / 10 ^ p < 10 ^ 38
quotient_small m p h = omega (arith, div-le_self m (10 ^ p))

unsigned_reads : (negative : Bool) (m p : ℕ) → m < 10 ^ 38 → p ≤ 100 → (0 < p → m % 10 ≢ 0)
    → read_unsigned negative (decimal (m / 10 ^ p) ++ fraction_text p m) ≡ Some (decimal_of negative (m, p))
unsigned_reads negative m zero h l e =
    let whole = whole_number_digits (m / 10 ^ 0) (quotient_small m 0 h) in
    let parts = whole_parts (decimal (m / 10 ^ 0)) whole.0 whole.1 in
    let value : magnitude (decimal (m / 10 ^ 0)) ≡ (m, 0) =
    ap₂ (λ (w f : List ℕ). shortened (digits_value 10 (w ++ f)) (length f)) parts.1 parts.2
    ∙ ap (λ n. let k : ℕ × ℕ = (n, 0) in k) (ap (digits_value 10) (append-nil (decimal (m / 10 ^ 0))) ∙ whole.2 ∙ div-one m) in
    rw append-nil (rw parts.0 (ap (decimal_in_bounds negative) value ∙ bounded_some negative m 0 h l))
unsigned_reads negative m (suc p) h l e =
    let whole = whole_number_digits (m / 10 ^ suc p) (quotient_small m (suc p) h) in
    let digits = last_digits (suc p) m in
    let count : length digits ≡ suc p = length-last_digits (suc p) m in
    let parts = point_parts (decimal (m / 10 ^ suc p)) digits whole.0 whole.1 (last_digits_are_digits (suc p) m) (omega arith) in
    let value : digits_value 10 (decimal (m / 10 ^ suc p) ++ digits) ≡ m =
    digits_value_after-append 0 (decimal (m / 10 ^ suc p)) digits ∙ ap (λ n. digits_value_after 10 n digits) whole.2 ∙ last_digits_value (suc p) m in
    let some : 0 < m % 10 = let f = e (omega arith) in omega arith in
    let is : magnitude (decimal (m / 10 ^ suc p) ++ 46 ∷ digits) ≡ (m, suc p) =
    ap₂ (λ (w f : List ℕ). shortened (digits_value 10 (w ++ f)) (length f)) parts.1 parts.2 ∙ ap₂ shortened value count ∙ shortened_digit m p some in
    rw parts.0 (ap (decimal_in_bounds negative) is ∙ bounded_some negative m (suc p) h l)

first_is_digit : (ds rest : List ℕ) → list_all is_ascii_digit ds ≡ true → 0 < length ds → read_number (ds ++ rest) ≡ read_unsigned false (ds ++ rest)
first_is_digit [] rest h some = absurd (omega arith)
first_is_digit (d ∷ ds) rest h some =
    let digit : is_ascii_digit d ≡ true = (and_parts (is_ascii_digit d) (list_all is_ascii_digit ds) h).0 in
    let no_minus : (d == 45) ≡ false = grind (arith, nat_tests) in
    rw no_minus

signed_reads : (z : ℤ) (p : ℕ) → IsNormal (record { coefficient = z; places = p }) → read_number (number_text (record { coefficient = z; places = p })) ≡ Some (record { coefficient = z; places = p })
signed_reads (pos n) p h =
    let whole = whole_number_digits (n / 10 ^ p) (quotient_small n p h.digits) in
    first_is_digit (decimal (n / 10 ^ p)) (fraction_text p n) whole.0 whole.1 ∙ unsigned_reads false n p h.digits h.places h.shortest
signed_reads (negsuc n) p h = unsigned_reads true (suc n) p h.digits h.places h.shortest

-- what is written is read to the same number
pub reads_back : (d : Decimal) → IsNormal d → read_number (number_text d) ≡ Some d
reads_back d h = signed_reads d.coefficient d.places h

-- ---- what is read is in normal form

pub by_bool : {G : Type 0} (b : Bool) → (b ≡ true → G) → (b ≡ false → G) → G
by_bool true f g = f refl
by_bool false f g = g refl

shortened_end_at : (n p : ℕ) (m : ℕ × ℕ) (zero_last : Bool) → (n % 10 == 0) ≡ zero_last → (0 < m.1 → m.0 % 10 ≢ 0) → (0 < (if zero_last then m else (n, suc p)).1 → (if zero_last then m else (n, suc p)).0 % 10 ≢ 0)
shortened_end_at n p m true e h = h
shortened_end_at n p m false e h = λ above z. let f : (n % 10 == 0) ≡ true = eq-eqb (n % 10) 0 z in let g : true ≡ false = sym f ∙ e in cc g

shortened_end : (n p : ℕ) → 0 < (shortened n p).1 → (shortened n p).0 % 10 ≢ 0
shortened_end n zero = λ above. absurd (omega arith)
shortened_end n (suc p) = shortened_end_at n p (shortened (n / 10) p) (n % 10 == 0) refl (shortened_end (n / 10) p)

bounded_normal : (negative : Bool) (m : ℕ × ℕ) (d : Decimal) → (0 < m.1 → m.0 % 10 ≢ 0) → decimal_in_bounds negative m ≡ Some d → IsNormal d
bounded_normal negative m d h is = by_bool (in_bounds m)
    (λ yes.
    let e : Some (decimal_of negative m) ≡ Some d = rw yes at is in
    let same : decimal_of negative m ≡ d = cc e in
    let both = and_parts (nat_lt m.0 (10 ^ 38)) (nat_le m.1 100) yes in
    subst IsNormal same (normal_decimal negative m.0 m.1 (ltb-true m.0 (10 ^ 38) both.0) (leb-true m.1 100 both.1) (λ above. let f = h above in omega arith)))
    (λ no. let e : None ≡ Some d = rw no at is in cc e)

unsigned_normal : (negative : Bool) (text : List ℕ) (d : Decimal) → read_unsigned negative text ≡ Some d → IsNormal d
unsigned_normal negative text d is = by_bool (is_unsigned text)
    (λ yes. let e : decimal_in_bounds negative (magnitude text) ≡ Some d = rw yes at is in bounded_normal negative (magnitude text) d (shortened_end (digits_value 10 (before_first is_point text ++ after_first is_point text)) (length (after_first is_point text))) e)
    (λ no. let e : None ≡ Some d = rw no at is in cc e)

pub read_normal : (text : List ℕ) (d : Decimal) → read_number text ≡ Some d → IsNormal d
read_normal [] d is = cc is
read_normal (c ∷ text) d is = by_bool (c == 45)
    (λ yes. let e : read_unsigned true text ≡ Some d = rw yes at is in unsigned_normal true text d e)
    (λ no. let e : read_unsigned false (c ∷ text) ≡ Some d = rw no at is in unsigned_normal false (c ∷ text) d e)
