-- The laws.
use Rattle.std.proofs.Common.{◌≡◌, ℕ, zero, suc, ◌*◌, ◌/◌, ◌%◌, ◌^◌, ◌++◌, List, [], ◌∷◌, length, Bool, true, false, Equal, Option, Some, None, ◌==◌, refl, sym, ap, ap₂, subst, ◌∙◌, arith}
use Rattle.std.specs.Prelude.{if◌then◌else◌, unsigned_abs}
use Rattle.std.specs.List.{before_first, after_first}
use Rattle.std.specs.Ordering.{ordering_then, nat_cmp, is_eq}
use Rattle.std.specs.Str.Parse.{digits_value}
use Rattle.std.proofs.lemmas.Cmp.{nat_cmp_total, tied_itself}
use Rattle.std.proofs.lemmas.Nat.{div-add-mod'}
use Rattle.std.proofs.Math.Nat.{mul_assoc, mul_comm, pow-suc}
use borrow.Author.Tests.{eqb-true}
use Rattle.json_tree.specs.Fields.{text_cmp}
use Rattle.attr_values.specs.Datum.{Datum, text, number, attributes_of}
use Rattle.attr_values.specs.Decimal.{Decimal, IsNormal, value_cmp}
use Rattle.attr_values.specs.DecimalOrder.{decimal_cmp_equal}
use Rattle.attr_values.specs.Faults.{result_map}
use Rattle.attr_values.specs.Item.{get_attribute}
use Rattle.attr_values.specs.Key.{part_of, part_from, sort_of}
use Rattle.attr_values.specs.Laws.{ReadsTheNumber, OneFormANumber, OneNumberASpelling, ItemReadsBack, EqualityIsOfItemValues, OneKeyAValue, SameByValue, BothSame, AgreeAtAttribute, AgreeAtSort, written_digits, written_places}
use Rattle.attr_values.specs.Numeral.{is_point, is_unsigned, in_bounds, shortened, magnitude, decimal_in_bounds, decimal_of, read_unsigned, read_number}
use Rattle.attr_values.specs.Proper.{IsProper, AreProperAttributes, IsItem}
use Rattle.attr_values.specs.declared.key.KeyAttribute.{KeyAttribute}
use Rattle.attr_values.proofs.NumberLemmas.{value_cmp_equal, decimal_cmp-value_cmp}
use Rattle.attr_values.proofs.NumeralLemmas.{magnitude_of_sign, read_normal, by_bool}
use Rattle.attr_values.proofs.ProperLemmas.{attributes_read_back}
use Rattle.attr_values.proofs.Same.{value_eq_both, item_eq_both, key_eq_both}

-- what is left of the fraction is the same number
shortened_same_at : (n p : ℕ) (b : Bool) → (n % 10 == 0) ≡ b → (shortened (n / 10) p).0 * 10 ^ p ≡ n / 10 * 10 ^ (shortened (n / 10) p).1
    → (if b then shortened (n / 10) p else (n, suc p)).0 * 10 ^ suc p ≡ n * 10 ^ (if b then shortened (n / 10) p else (n, suc p)).1
shortened_same_at n p true e h =
    let m = shortened (n / 10) p in
    let last : n % 10 ≡ 0 = eqb-true (n % 10) 0 e in
    let whole : n / 10 * 10 ≡ n = omega (arith, div-add-mod' n 10) in
    let left : m.0 * 10 ^ suc p ≡ m.0 * 10 ^ p * 10 = ap (λ k. m.0 * k) (pow-suc 10 p) ∙ sym (mul_assoc m.0 (10 ^ p) 10) in
    let turned : n / 10 * 10 ^ m.1 * 10 ≡ n / 10 * 10 * 10 ^ m.1 = mul_assoc (n / 10) (10 ^ m.1) 10 ∙ ap (λ k. n / 10 * k) (mul_comm (10 ^ m.1) 10) ∙ sym (mul_assoc (n / 10) 10 (10 ^ m.1)) in
    left ∙ ap (λ k. k * 10) h ∙ turned ∙ ap (λ k. k * 10 ^ m.1) whole
shortened_same_at n p false e h = refl

shortened_same : (n p : ℕ) → (shortened n p).0 * 10 ^ p ≡ n * 10 ^ (shortened n p).1
shortened_same n zero = refl
shortened_same n (suc p) = shortened_same_at n p (n % 10 == 0) refl (shortened_same (n / 10) p)

bounded_is : (negative : Bool) (m : ℕ × ℕ) (n : Decimal) → decimal_in_bounds negative m ≡ Some n → decimal_of negative m ≡ n
bounded_is negative m n is = by_bool (in_bounds m)
    (λ yes. let e : Some (decimal_of negative m) ≡ Some n = rw yes at is in cc e)
    (λ no. let e : None ≡ Some n = rw no at is in cc e)

unsigned_is : (negative : Bool) (s : List ℕ) (n : Decimal) → read_unsigned negative s ≡ Some n → decimal_of negative (magnitude s) ≡ n
unsigned_is negative s n is = by_bool (is_unsigned s)
    (λ yes. let e : decimal_in_bounds negative (magnitude s) ≡ Some n = rw yes at is in bounded_is negative (magnitude s) n e)
    (λ no. let e : None ≡ Some n = rw no at is in cc e)

unsigned_reads : (negative : Bool) (s : List ℕ) (n : Decimal) → read_unsigned negative s ≡ Some n
    → unsigned_abs n.coefficient * 10 ^ length (after_first is_point s) ≡ digits_value 10 (before_first is_point s ++ after_first is_point s) * 10 ^ n.places
unsigned_reads negative s n is =
    let e = unsigned_is negative s n is in
    let m = magnitude s in
    let digits : unsigned_abs n.coefficient ≡ m.0 = ap (λ (d : Decimal). unsigned_abs d.coefficient) (sym e) ∙ magnitude_of_sign negative m.0 in
    let places : n.places ≡ m.1 = ap (λ (d : Decimal). d.places) (sym e) in
    rw (digits, places) (shortened_same (digits_value 10 (before_first is_point s ++ after_first is_point s)) (length (after_first is_point s)))

signed_reads : (s : List ℕ) (n : Decimal) → read_number s ≡ Some n → unsigned_abs n.coefficient * 10 ^ written_places s ≡ written_digits s * 10 ^ n.places
signed_reads [] n is = cc is
signed_reads (c ∷ s) n is = by_bool (c == 45)
    (λ yes. let e : read_unsigned true s ≡ Some n = rw yes at is in rw yes (unsigned_reads true s n e))
    (λ no. let e : read_unsigned false (c ∷ s) ≡ Some n = rw no at is in rw no (unsigned_reads false (c ∷ s) n e))

pub reads_the_number : ReadsTheNumber
reads_the_number s n is = (signed_reads s n is, read_normal s n is)

pub one_form : (m n : Decimal) → IsNormal m → IsNormal n → value_cmp m n ≡ Equal → m ≡ n
one_form m n f g h =
    let places : m.places ≡ n.places = value_cmp_equal m n f g h in
    let tied : nat_cmp m.places n.places ≡ Equal = rw places (tied_itself nat_cmp_total n.places) in
    decimal_cmp_equal m n (ap₂ ordering_then h tied)

pub one_form_a_number : OneFormANumber
one_form_a_number m n f g = (one_form m n f g, decimal_cmp-value_cmp m n f g)

pub one_number_a_spelling : OneNumberASpelling
one_number_a_spelling s t m n is js h = one_form m n (read_normal s m is) (read_normal t n js) h

pub item_reads_back : ItemReadsBack
item_reads_back item h = attributes_read_back 32 (attributes_of item) h.proper

pub equality_of_values : EqualityIsOfItemValues
equality_of_values = (value_eq_both, item_eq_both, key_eq_both)

-- ---- one key

found_at : (levels : ℕ) (b : Bool) (d e : Datum) (o : Option Datum) → IsProper levels d → (o ≡ Some e → IsProper levels e) → (if b then Some d else o) ≡ Some e → IsProper levels e
found_at levels true d e o p q is = let same : d ≡ e = cc is in subst (IsProper levels) same p
found_at levels false d e o p q is = q is

found_is_proper : (levels : ℕ) (name : List ℕ) (ms : List (List ℕ × Datum)) (e : Datum) → AreProperAttributes levels (attributes_of ms) → get_attribute name ms ≡ Some e → IsProper levels e
found_is_proper levels name [] e h is = cc is
found_is_proper levels name (m ∷ ms) e h is = found_at levels (is_eq (text_cmp name m.0)) m.1 e (get_attribute name ms) h.0 (found_is_proper levels name ms e h.1) is

data_agree : (levels : ℕ) (d e : Datum) → IsProper levels d → IsProper levels e → SameByValue d e → d ≡ e
data_agree levels (text s) (text t) p q h = ap text h
data_agree levels (number m) (number n) p q h = ap number (one_form m n p q h)
data_agree levels _ _ p q h = absurd h

both_agree : (o r : Option Datum) → ((d : Datum) → o ≡ Some d → IsProper 32 d) → ((d : Datum) → r ≡ Some d → IsProper 32 d) → BothSame o r → o ≡ r
both_agree (Some d) (Some e) p q h = ap Some (data_agree 32 d e (p d refl) (q e refl) h)
both_agree None r p q h = absurd h
both_agree (Some d) None p q h = absurd h

parts_agree : (a : KeyAttribute) (x y : List (List ℕ × Datum)) → IsItem x → IsItem y → AgreeAtAttribute a x y → part_of a x ≡ part_of a y
parts_agree a x y p q h =
    ap (part_from a.kind) (both_agree (get_attribute a.name x) (get_attribute a.name y) (λ d. found_is_proper 32 a.name x d p.proper) (λ d. found_is_proper 32 a.name y d q.proper) h)

sorts_agree : (a : Option KeyAttribute) (x y : List (List ℕ × Datum)) → IsItem x → IsItem y → AgreeAtSort a x y → sort_of a x ≡ sort_of a y
sorts_agree None x y p q h = refl
sorts_agree (Some a) x y p q h = ap (result_map Some) (parts_agree a x y p q h)

pub one_key_a_value : OneKeyAValue
one_key_a_value schema x y p q h k = rw (parts_agree schema.partition x y p q h, sorts_agree schema.sort x y p q k) refl
