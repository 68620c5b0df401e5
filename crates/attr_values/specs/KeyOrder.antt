-- The order of keys is total, and tells apart any two that differ.
use Rattle.std.specs.Prelude.{◌≡◌, ℕ, List, true, Option, Some, None, refl}
use Rattle.std.specs.Cmp.{IsTotalOrder, on_total, then_total}
use Rattle.std.specs.Cmp.Lexicographic.{nat_list_cmp_total, options_total}
use Rattle.std.specs.FinMap.{nat_cmp-IsAntisymmetric, slice_cmp-IsAntisymmetric}
use Rattle.std.specs.Option.{option_cmp}
use Rattle.std.specs.Ordering.{ordering_then, ordering_reverse, eq_by_cmp, is_eq}
use Rattle.std.specs.declared.cmp.Ordering.{Ordering}
use Rattle.std.specs.declared.cmp.Ordering.TheVariants.{Less, Equal, Greater}
use Rattle.std.proofs.Common.{ap, ap₂}
use Rattle.json_tree.specs.Fields.{text_cmp}
use Rattle.attr_values.specs.DecimalOrder.{decimal_cmp_total, decimal_cmp_equal}
use Rattle.attr_values.specs.Key.{part_cmp, key_cmp, part_input, key_input}
use Rattle.attr_values.specs.declared.key.Key.{Key}
use Rattle.attr_values.specs.declared.key_part.KeyPart.{KeyPart}
use Rattle.attr_values.specs.declared.key_part.KeyPart.TheVariants.{S, N}

part_flip : (a b : KeyPart) → part_cmp a b ≡ ordering_reverse (part_cmp b a)
part_flip (S s) (S t) = nat_list_cmp_total.antisymm s t
part_flip (S s) (N n) = refl
part_flip (N m) (S t) = refl
part_flip (N m) (N n) = decimal_cmp_total.antisymm m n

part_rises : (a b c : KeyPart) → part_cmp a b ≡ Less → part_cmp b c ≡ Less → part_cmp a c ≡ Less
part_rises (S a) (S b) (S c) h k = nat_list_cmp_total.trans a b c h k
part_rises (N a) (N b) (N c) h k = decimal_cmp_total.trans a b c h k
part_rises (S a) b (N c) h k = refl
part_rises (S a) (N b) (S c) h k = cc k
part_rises (N a) (S b) c h k = cc h
part_rises (N a) (N b) (S c) h k = cc k

part_alike : (a b c : KeyPart) → part_cmp a b ≡ Equal → part_cmp a c ≡ part_cmp b c
part_alike (S a) (S b) (S c) h = nat_list_cmp_total.congr a b c h
part_alike (S a) (S b) (N c) h = refl
part_alike (S a) (N b) c h = cc h
part_alike (N a) (S b) c h = cc h
part_alike (N a) (N b) (S c) h = refl
part_alike (N a) (N b) (N c) h = decimal_cmp_total.congr a b c h

pub part_cmp_total : IsTotalOrder part_cmp
part_cmp_total = record { antisymm = part_flip; trans = part_rises; congr = part_alike }

pub key_cmp_total : IsTotalOrder key_cmp
key_cmp_total = then_total (on_total (λ (k : Key). k.partition) part_cmp_total) (on_total (λ (k : Key). k.sort) (options_total part_cmp_total))

text_cmp_equal : (s t : List ℕ) → text_cmp s t ≡ Equal → s ≡ t
text_cmp_equal = slice_cmp-IsAntisymmetric nat_cmp-IsAntisymmetric

pub part_cmp_equal : (a b : KeyPart) → part_cmp a b ≡ Equal → a ≡ b
part_cmp_equal (S s) (S t) h = ap S (text_cmp_equal s t h)
part_cmp_equal (S s) (N n) h = cc h
part_cmp_equal (N m) (S t) h = cc h
part_cmp_equal (N m) (N n) h = ap N (decimal_cmp_equal m n h)

sort_cmp_equal : (a b : Option KeyPart) → option_cmp part_cmp a b ≡ Equal → a ≡ b
sort_cmp_equal None None h = refl
sort_cmp_equal None (Some b) h = cc h
sort_cmp_equal (Some a) None h = cc h
sort_cmp_equal (Some a) (Some b) h = ap Some (part_cmp_equal a b h)

then_equal : (o p : Ordering) → ordering_then o p ≡ Equal → (o ≡ Equal) × (p ≡ Equal)
then_equal Less p h = cc h
then_equal Equal p h = (refl, h)
then_equal Greater p h = cc h

-- the order tells apart any two that differ
pub key_cmp_equal : (a b : Key) → key_cmp a b ≡ Equal → a ≡ b
key_cmp_equal a b h =
    let both = then_equal (part_cmp a.partition b.partition) (option_cmp part_cmp a.sort b.sort) h in
    ap₂ (λ (p : KeyPart) (s : Option KeyPart). let k : Key = record { partition = p; sort = s } in k) (part_cmp_equal a.partition b.partition both.0) (sort_cmp_equal a.sort b.sort both.1)

is_equal : (o : Ordering) → is_eq o ≡ true → o ≡ Equal
is_equal Less h = cc
is_equal Equal h = refl
is_equal Greater h = cc

-- equal keys are fed alike to a hasher
pub part_input_equal : (a b : KeyPart) → eq_by_cmp part_cmp a b ≡ true → part_input a ≡ part_input b
part_input_equal a b h = ap part_input (part_cmp_equal a b (is_equal _ h))

pub key_input_equal : (a b : Key) → eq_by_cmp key_cmp a b ≡ true → key_input a ≡ key_input b
key_input_equal a b h = ap key_input (key_cmp_equal a b (is_equal _ h))
