-- The text of a number: `-?digits(.digits)?`.
use Rattle.std.specs.Prelude.{◌≡◌, ◌≢◌, ◌⊎◌, ℕ, zero, suc, ◌+◌, ◌/◌, ◌%◌, ◌^◌, ℤ, pos, negsuc, neg_ℤ, unsigned_abs, Bool, true, false, ◌&&◌, ◌||◌, ◌==◌, not, nat_lt, nat_le, if◌then◌else◌, Option, None, Some, List, [], ◌∷◌, ◌++◌, length, decimal}
use Rattle.std.specs.Char.{is_ascii_digit}
use Rattle.std.specs.List.{list_all, position_or_len, before_first, after_first}
use Rattle.std.specs.Str.Parse.{digits_value}
use Rattle.attr_values.specs.Decimal.{Decimal}

-- one digit or more, and nothing else
abbrev pub is_digits : List ℕ → Bool
is_digits ds = nat_lt 0 (length ds) && list_all is_ascii_digit ds

abbrev pub is_point : ℕ → Bool
is_point c = c == 46

abbrev pub has_point : List ℕ → Bool
has_point text = nat_lt (position_or_len is_point text) (length text)

-- digits, and perhaps a point and digits after it
abbrev pub is_unsigned : List ℕ → Bool
is_unsigned text = is_digits (before_first is_point text) && (not (has_point text) || is_digits (after_first is_point text))

-- n over ten to the places, without the zeros at the end of its fraction
abbrev pub shortened : ℕ → ℕ → ℕ × ℕ
shortened n zero = (n, zero)
shortened n (suc p) = if n % 10 == 0 then shortened (n / 10) p else (n, suc p)

-- zero has no sign
abbrev pub with_sign : Bool → ℕ → ℤ
with_sign true n = neg_ℤ (pos n)
with_sign false n = pos n

-- at most 38 digits and 100 places
abbrev pub in_bounds : ℕ × ℕ → Bool
in_bounds m = nat_lt m.0 (10 ^ 38) && nat_le m.1 100

abbrev pub decimal_of : Bool → ℕ × ℕ → Decimal
decimal_of negative m = record { coefficient = with_sign negative m.0; places = m.1 }

abbrev pub decimal_in_bounds : Bool → ℕ × ℕ → Option Decimal
decimal_in_bounds negative m = if in_bounds m then Some (decimal_of negative m) else None

-- the number over ten to its places that the digits write
abbrev pub magnitude : List ℕ → ℕ × ℕ
magnitude text = shortened (digits_value 10 (before_first is_point text ++ after_first is_point text)) (length (after_first is_point text))

abbrev pub read_unsigned : Bool → List ℕ → Option Decimal
read_unsigned negative text = if is_unsigned text then decimal_in_bounds negative (magnitude text) else None

-- the number that a text writes, and none where it writes none or one past the bounds
abbrev pub read_number : List ℕ → Option Decimal
read_number [] = None
read_number (c ∷ text) = if c == 45 then read_unsigned true text else read_unsigned false (c ∷ text)

-- the last k digits of n
abbrev pub last_digits : ℕ → ℕ → List ℕ
last_digits zero n = []
last_digits (suc k) n = last_digits k (n / 10) ++ (48 + n % 10) ∷ []

-- the point and the digits after it, where there are any
abbrev pub fraction_text : ℕ → ℕ → List ℕ
fraction_text zero n = []
fraction_text (suc p) n = 46 ∷ last_digits (suc p) n

abbrev pub sign_text : ℤ → List ℕ
sign_text (pos n) = []
sign_text (negsuc n) = 45 ∷ []

-- the spelling of a number
abbrev pub number_text : Decimal → List ℕ
number_text d = sign_text d.coefficient ++ (decimal (unsigned_abs d.coefficient / 10 ^ d.places) ++ fraction_text d.places (unsigned_abs d.coefficient))

-- For private clauses: the digits end in no zero, and a text is a numeral with these digits before and after its point
abbrev pub IsShort : List ℕ → Type 0
IsShort ds = (ds ≡ []) ⊎ (start : List ℕ) × (d : ℕ) × (ds ≡ start ++ d ∷ []) × (d ≢ 48)

pub record SplitsAtPoint (text whole fraction : List ℕ) : Type 0 where
  pub numeral : is_unsigned text ≡ true
  pub before : whole ≡ before_first is_point text
  pub after : fraction ≡ after_first is_point text
  pub whole_digits : list_all is_ascii_digit whole ≡ true
  pub fraction_digits : list_all is_ascii_digit fraction ≡ true
