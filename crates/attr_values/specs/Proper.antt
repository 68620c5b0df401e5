-- What each value that is read keeps: its numbers are in normal form, its sets are in order, without repeats and not empty,
-- and its lists and maps nest at most so many levels deep.
use Rattle.std.specs.Prelude.{◌≢◌, ℕ, zero, suc, List, []}
use Rattle.std.specs.List.{AllByRecursion}
use Rattle.std.specs.List.Sorted.{IsStrictlySortedBy}
use Rattle.std.specs.Map.{keys_of}
use Rattle.json_tree.specs.Fields.{text_cmp}
use Rattle.attr_values.specs.Decimal.{Decimal, IsNormal, decimal_cmp}
use Rattle.attr_values.specs.Datum.{Datum, text, number, boolean, null, list, document, texts, numbers, Elements, no_elements, element, Attributes, no_attributes, attribute, attributes_of}

abbrev pub IsTextSet : List (List ℕ) → Type 0
IsTextSet ss = (ss ≢ []) × IsStrictlySortedBy text_cmp ss

abbrev pub IsNumberSet : List Decimal → Type 0
IsNumberSet ns = (ns ≢ []) × IsStrictlySortedBy decimal_cmp ns × AllByRecursion IsNormal ns

abbrev mutual
  pub IsProper : ℕ → Datum → Type 0
  IsProper levels (text s) = Unit {0}
  IsProper levels (number n) = IsNormal n
  IsProper levels (boolean b) = Unit {0}
  IsProper levels null = Unit {0}
  IsProper zero (list ds) = ⊥
  IsProper (suc levels) (list ds) = AreProper levels ds
  IsProper zero (document ms) = ⊥
  IsProper (suc levels) (document ms) = AreProperAttributes levels ms
  IsProper levels (texts ss) = IsTextSet ss
  IsProper levels (numbers ns) = IsNumberSet ns

  pub AreProper : ℕ → Elements → Type 0
  AreProper levels no_elements = Unit {0}
  AreProper levels (element d ds) = IsProper levels d × AreProper levels ds

  pub AreProperAttributes : ℕ → Attributes → Type 0
  AreProperAttributes levels no_attributes = Unit {0}
  AreProperAttributes levels (attribute k d ms) = IsProper levels d × AreProperAttributes levels ms

-- what each item keeps: its names rise, and its values are proper, 32 levels deep at most
pub record IsItem (ms : List (List ℕ × Datum)) : Type 0 where
  pub ordered : IsStrictlySortedBy text_cmp (keys_of ms)
  pub proper : AreProperAttributes 32 (attributes_of ms)
