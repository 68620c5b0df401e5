-- Comparing part by part, where the first part that differs decides: what orders made so need, whatever the parts are.
use Rattle.std.specs.Prelude.{◌≡◌, ℕ, List, refl}
use Rattle.std.proofs.Common.{sym, ap, ◌∙◌}
use Rattle.std.specs.Cmp.Lexicographic.{nat_list_cmp_total}
use Rattle.std.specs.Ordering.{ordering_then, ordering_reverse}
use Rattle.std.specs.declared.cmp.Ordering.{Ordering}
use Rattle.std.specs.declared.cmp.Ordering.TheVariants.{Less, Equal, Greater}
use Rattle.json_tree.specs.Fields.{text_cmp}

then_reverse : (a b : Ordering) → ordering_reverse (ordering_then a b) ≡ ordering_then (ordering_reverse a) (ordering_reverse b)
then_reverse Less b = refl
then_reverse Equal b = refl
then_reverse Greater b = refl

-- the order turned round
pub then_flip : (a b a' b' : Ordering) → a ≡ ordering_reverse a' → b ≡ ordering_reverse b' → ordering_then a b ≡ ordering_reverse (ordering_then a' b')
then_flip a b a' b' p q = rw (p, q) (sym (then_reverse a' b'))

pub first_equal : (a b : Ordering) → ordering_then a b ≡ Equal → a ≡ Equal
first_equal Less b h = h
first_equal Equal b h = refl
first_equal Greater b h = h

pub second_equal : (a b : Ordering) → ordering_then a b ≡ Equal → b ≡ Equal
second_equal Less b h = cc h
second_equal Equal b h = h
second_equal Greater b h = cc h

-- what rises twice in the first part, or stays there and rises in the second, rises
pub then_rises : (p q r p' q' r' : Ordering) → (p ≡ Less → q ≡ Less → r ≡ Less) → (p ≡ Equal → r ≡ q) → (q ≡ Equal → r ≡ p) → (p' ≡ Less → q' ≡ Less → r' ≡ Less)
    → ordering_then p p' ≡ Less → ordering_then q q' ≡ Less → ordering_then r r' ≡ Less
then_rises Less Less r p' q' r' t a b u h k = rw (t refl refl)
then_rises Less Equal r p' q' r' t a b u h k = rw (b refl)
then_rises Less Greater r p' q' r' t a b u h k = cc k
then_rises Equal Less r p' q' r' t a b u h k = rw (a refl)
then_rises Equal Equal r p' q' r' t a b u h k = rw (a refl) (u h k)
then_rises Equal Greater r p' q' r' t a b u h k = cc k
then_rises Greater q r p' q' r' t a b u h k = cc h

-- an equal text on the right
pub text_right : (k l m : List ℕ) → text_cmp l m ≡ Equal → text_cmp k m ≡ text_cmp k l
text_right k l m h =
    let back : text_cmp m l ≡ Equal = nat_list_cmp_total.antisymm m l ∙ ap ordering_reverse h in
    nat_list_cmp_total.antisymm k m ∙ ap ordering_reverse (nat_list_cmp_total.congr m l k back) ∙ sym (nat_list_cmp_total.antisymm k l)
