-- What the commonest short texts are read as: each is what is written for its value.
use Rattle.std.proofs.Common.{◌≡◌, ℕ, ◌≤◌, ℤ, List, [], Bool, length, get_or, Result, Ok, Err, IfSome, Some, FitsSigned, w64, sym, ap, ◌∙◌, arith}
use Rattle.std.proofs.lemmas.Fmt.{decimal-digits_value}
use Rattle.std.proofs.lemmas.Str.Parse.{IsNumeralModel, numerals_by_value, tells_digits, parse_signed_plain}
use Rattle.std.specs.Fmt.{signed_decimal}
use Rattle.std.specs.Int.{IsInRange}
use Rattle.std.specs.List.Sorted.{IsStrictlySortedBy}
use Rattle.std.specs.Result.{result_ok}
use Rattle.std.proofs.lemmas.Slice.Eq.{HasBytesAt, text_from_reads}
use Rattle.std.proofs.lemmas.Str.{IsUtf8-nil}
use Rattle.std.specs.Str.Parse.{AllDigits, digits_value, ParsesSigned}
use Rattle.json_tree.specs.Data.{Data, null, boolean, whole, text, list, no_items, fields, no_members, depth}
use Rattle.json_tree.specs.Proper.{IsProper}
use Rattle.json_tree.specs.Reading.{read_json}
use Rattle.json_tree.specs.Written.{text_of}
use Rattle.json_tree.proofs.RoundTrip.{reads_back}

reads_as : (bytes : List ℕ) (d : Data) → bytes ≡ text_of d → IsProper d → depth d ≤ 127 → read_json bytes ≡ Some d
reads_as bytes d is proper shallow = ap read_json is ∙ reads_back d proper shallow

-- the bytes are those of the value's text
abbrev pub AreBytesOf : List ℕ → Data → Type 0
AreBytesOf bytes d = (length bytes ≡ length (text_of d)) × HasBytesAt bytes 0 (text_of d)

bytes_read : (bytes : List ℕ) (d : Data) → AreBytesOf bytes d → IsProper d → depth d ≤ 127 → read_json bytes ≡ Some d
bytes_read bytes d h proper shallow = reads_as bytes d (text_from_reads bytes (text_of d) h.0 h.1) proper shallow

pub no_fields_read : (bytes : List ℕ) → AreBytesOf bytes (fields no_members) → read_json bytes ≡ Some (fields no_members)
unfolding IsStrictlySortedBy
no_fields_read bytes h = bytes_read bytes (fields no_members) h (tt, tt) (omega arith)

pub no_items_read : (bytes : List ℕ) → AreBytesOf bytes (list no_items) → read_json bytes ≡ Some (list no_items)
no_items_read bytes h = bytes_read bytes (list no_items) h tt (omega arith)

pub no_text_read : (bytes : List ℕ) → AreBytesOf bytes (text []) → read_json bytes ≡ Some (text [])
no_text_read bytes h = bytes_read bytes (text []) h IsUtf8-nil (omega arith)

pub null_read : (bytes : List ℕ) → AreBytesOf bytes null → read_json bytes ≡ Some null
null_read bytes h = bytes_read bytes null h tt (omega arith)

pub boolean_read : (b : Bool) (bytes : List ℕ) → AreBytesOf bytes (boolean b) → read_json bytes ≡ Some (boolean b)
boolean_read b bytes h = bytes_read bytes (boolean b) h tt (omega arith)

pub whole_read : (z : ℤ) (bytes : List ℕ) → bytes ≡ signed_decimal z → FitsSigned w64 z → read_json bytes ≡ Some (whole z)
whole_read z bytes is fits = reads_as bytes (whole z) is fits (omega arith)

own : IsNumeralModel (AllDigits 10) (digits_value 10)
own = numerals_by_value (AllDigits 10) tells_digits

-- digits with no zero before them are what is written for the number that they are parsed to
pub parsed_is_spelled : {E : Type 0} (bytes spelling : List ℕ) (r : Result ℤ E) → spelling ≡ bytes → ParsesSigned w64 10 spelling r → IsInRange 48 57 (get_or bytes 0 0) → (get_or bytes 0 0 ≡ 48 → length bytes ≤ 1)
    → IfSome (result_ok r) (λ z. bytes ≡ signed_decimal z)
parsed_is_spelled bytes spelling (Err e) same parsed digit alone = tt
parsed_is_spelled {E} bytes spelling (Ok z) same parsed digit alone =
    let value = parse_signed_plain own {E = E} w64 bytes (Ok z) (rw (← same) parsed) (λ e. omega (arith, e, digit)) (λ e. omega (arith, e, digit)) in
    let spelled = decimal-digits_value own bytes value.0.0 value.0.1 (λ e. omega (arith, alone e, value.0.1)) (omega (arith, value.0.2)) in
    sym spelled ∙ ap signed_decimal (sym value.1)
