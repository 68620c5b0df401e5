-- The order of decimal numbers by quotients, remainders and signs, and their normal form.
use Rattle.std.proofs.Common.{◌≡◌, ◌≢◌, ℕ, suc, ◌+◌, ◌-◌, ◌*◌, ◌/◌, ◌%◌, ◌^◌, ◌<◌, ◌≤◌, refl, sym, ◌∙◌, ap, subst, arith}
use Rattle.std.specs.Prelude.{ℤ, pos, negsuc, neg_ℤ, ◌*ℤ◌, ◌<ℤ◌, ◌≤ℤ◌, unsigned_abs}
use Rattle.std.specs.declared.cmp.Ordering.{Ordering}
use Rattle.std.specs.declared.cmp.Ordering.TheVariants.{Less, Equal, Greater}
use Rattle.std.specs.Ordering.{MatchOrdering, nat_cmp, int_cmp, ordering_then, ordering_reverse}
use Rattle.std.specs.Cmp.{ranked, int_ranked, nat_cmp_is, int_cmp_is, nat_cmp_total, tied_itself}
use Rattle.std.proofs.lemmas.Cmp.{by_ranked}
use Rattle.std.proofs.lemmas.Int.{ints, unsigned_abs-mul}
use Rattle.std.proofs.Math.Nat.{mul_assoc, mul_comm, one-le-pow, pow-suc, mul-le-mul_right, mul-mod_left, mod-lt, eq_of_mul-eq-mul_right}
use Rattle.std.proofs.lemmas.Nat.{pow-add, div-add-mod'}
use Rattle.attr_values.specs.Decimal.{Decimal, IsNormal, value_cmp, decimal_cmp}

pub ten_above_zero : (p : ℕ) → 0 < 10 ^ p
ten_above_zero p = one-le-pow p 10 (omega arith)

whole_then_rest : (o r : Ordering) (n q rest w k : ℕ) → n ≡ q * k + rest → rest < k → MatchOrdering o (q < w) (q ≡ w) (w < q) → MatchOrdering r (rest < 0) (rest ≡ 0) (0 < rest)
    → MatchOrdering (ordering_then o r) (n < w * k) (n ≡ w * k) (w * k < n)
whole_then_rest Less r n q rest w k e l h i = omega (arith, mul-le-mul_right {m = suc q} {n = w} k h)
whole_then_rest Equal Less n q rest w k e l h i = absurd (omega arith)
whole_then_rest Equal Equal n q rest w k e l h i = let f = ap (λ x. x * k) h in omega arith
whole_then_rest Equal Greater n q rest w k e l h i = let f = ap (λ x. x * k) h in omega arith
whole_then_rest Greater r n q rest w k e l h i = omega (arith, mul-le-mul_right {m = suc w} {n = q} k h)

-- n and w times k are ordered as the quotient and w are, and then as the remainder and nothing
pub nat_cmp-quotient : (n w k : ℕ) → 0 < k → ordering_then (nat_cmp (n / k) w) (nat_cmp (n % k) 0) ≡ nat_cmp n (w * k)
nat_cmp-quotient n w k h =
    nat_cmp_is n (w * k) _ (whole_then_rest (nat_cmp (n / k) w) (nat_cmp (n % k) 0) n (n / k) (n % k) w k (sym (div-add-mod' n k)) (mod-lt n h)
    (ranked (n / k) w _ refl) (ranked (n % k) 0 _ refl))

nat_ranks : (o : Ordering) (a b k : ℕ) → 0 < k → MatchOrdering o (a < b) (a ≡ b) (b < a) → MatchOrdering o (a * k < b * k) (a * k ≡ b * k) (b * k < a * k)
nat_ranks Less a b k p h = omega (arith, mul-le-mul_right {m = suc a} {n = b} k h)
nat_ranks Equal a b k p h = ap (λ x. x * k) h
nat_ranks Greater a b k p h = omega (arith, mul-le-mul_right {m = suc b} {n = a} k h)

-- a common factor leaves the order as it is
pub nat_cmp-scaled : (a b k : ℕ) → 0 < k → nat_cmp a b ≡ nat_cmp (a * k) (b * k)
nat_cmp-scaled a b k h = nat_cmp_is _ _ _ (nat_ranks (nat_cmp a b) a b k h (ranked a b _ refl))

-- with more places on the left
pub nat_cmp-more_places : (a b p q : ℕ) → q ≤ p → nat_cmp a (b * 10 ^ (p - q)) ≡ nat_cmp (a * 10 ^ q) (b * 10 ^ p)
nat_cmp-more_places a b p q h =
    let whole : p ≡ (p - q) + q = omega arith in
    let power : 10 ^ (p - q) * 10 ^ q ≡ 10 ^ p = sym (pow-add 10 (p - q) q) ∙ ap (λ n. 10 ^ n) (sym whole) in
    nat_cmp-scaled a (b * 10 ^ (p - q)) (10 ^ q) (ten_above_zero q) ∙ ap (nat_cmp (a * 10 ^ q)) (mul_assoc b (10 ^ (p - q)) (10 ^ q) ∙ ap (λ n. b * n) power)

-- and on the right
pub nat_cmp-fewer_places : (a b p q : ℕ) → p ≤ q → ordering_reverse (nat_cmp b (a * 10 ^ (q - p))) ≡ nat_cmp (a * 10 ^ q) (b * 10 ^ p)
nat_cmp-fewer_places a b p q h = ap ordering_reverse (nat_cmp-more_places b a q p h) ∙ sym (nat_cmp_total.antisymm (a * 10 ^ q) (b * 10 ^ p))

both_plus : (o : Ordering) (a b : ℕ) → MatchOrdering o (a < b) (a ≡ b) (b < a) → MatchOrdering o (pos a <ℤ pos b) (pos a ≡ pos b) (pos b <ℤ pos a)
both_plus Less a b h = omega (arith, ints)
both_plus Equal a b h = ap pos h
both_plus Greater a b h = omega (arith, ints)

both_minus : (o : Ordering) (a b : ℕ) → MatchOrdering o (a < b) (a ≡ b) (b < a)
    → MatchOrdering (ordering_reverse o) (neg_ℤ (pos a) <ℤ neg_ℤ (pos b)) (neg_ℤ (pos a) ≡ neg_ℤ (pos b)) (neg_ℤ (pos b) <ℤ neg_ℤ (pos a))
both_minus Less a b h = omega (arith, ints)
both_minus Equal a b h = ap (λ n. neg_ℤ (pos n)) h
both_minus Greater a b h = omega (arith, ints)

not_below_zero : (a : ℕ) → ¬ (pos a <ℤ pos 0)
not_below_zero a h = omega (arith, ints)

by_order : {G : Type 0} (p q : ℕ) → (p < q → G) → (p ≡ q → G) → (q < p → G) → G
by_order p q f g h = by_ranked (p < q) (p ≡ q) (q < p) (nat_cmp p q) (ranked p q _ refl) (λ _. f) (λ _. g) (λ _. h)

-- the order of two numbers, by their signs and the order of their magnitudes
pub int_cmp-plus_plus : (x y : ℤ) (k l : ℕ) → pos 0 ≤ℤ x → pos 0 ≤ℤ y → nat_cmp (unsigned_abs x * k) (unsigned_abs y * l) ≡ int_cmp (x *ℤ pos k) (y *ℤ pos l)
int_cmp-plus_plus (pos a) (pos b) k l g h = int_cmp_is _ _ _ (both_plus (nat_cmp (a * k) (b * l)) (a * k) (b * l) (ranked (a * k) (b * l) _ refl))
int_cmp-plus_plus (pos a) (negsuc b) k l g h = absurd h.le
int_cmp-plus_plus (negsuc a) y k l g h = absurd g.le

pub int_cmp-minus_minus : (x y : ℤ) (k l : ℕ) → x <ℤ pos 0 → y <ℤ pos 0 → ordering_reverse (nat_cmp (unsigned_abs x * k) (unsigned_abs y * l)) ≡ int_cmp (x *ℤ pos k) (y *ℤ pos l)
int_cmp-minus_minus (negsuc a) (negsuc b) k l g h = int_cmp_is _ _ _ (both_minus (nat_cmp (suc a * k) (suc b * l)) (suc a * k) (suc b * l) (ranked (suc a * k) (suc b * l) _ refl))
int_cmp-minus_minus (negsuc a) (pos b) k l g h = absurd (not_below_zero b h)
int_cmp-minus_minus (pos a) y k l g h = absurd (not_below_zero a g)

minus_below_plus : (m n : ℕ) → 0 < m → neg_ℤ (pos m) <ℤ pos n
minus_below_plus m n h = omega (arith, ints)

pub int_cmp-minus_plus : (x y : ℤ) (k l : ℕ) → 0 < k → x <ℤ pos 0 → pos 0 ≤ℤ y → Less ≡ int_cmp (x *ℤ pos k) (y *ℤ pos l)
int_cmp-minus_plus (negsuc a) (pos b) k l p g h = int_cmp_is _ _ _ (minus_below_plus (suc a * k) (b * l) (omega (arith, mul-le-mul_right {m = 1} {n = suc a} k (omega arith))))
int_cmp-minus_plus (negsuc a) (negsuc b) k l p g h = absurd h.le
int_cmp-minus_plus (pos a) y k l p g h = absurd (not_below_zero a g)

pub int_cmp-plus_minus : (x y : ℤ) (k l : ℕ) → 0 < l → pos 0 ≤ℤ x → y <ℤ pos 0 → Greater ≡ int_cmp (x *ℤ pos k) (y *ℤ pos l)
int_cmp-plus_minus (pos a) (negsuc b) k l p g h = int_cmp_is _ _ _ (minus_below_plus (suc b * l) (a * k) (omega (arith, mul-le-mul_right {m = 1} {n = suc b} l (omega arith))))
int_cmp-plus_minus (pos a) (pos b) k l p g h = absurd (not_below_zero b h)
int_cmp-plus_minus (negsuc a) y k l p g h = absurd g.le

ten_divides : (n k : ℕ) → (n * 10 ^ suc k) % 10 ≡ 0
ten_divides n k =
    let e : n * 10 ^ suc k ≡ (n * 10 ^ k) * 10 = ap (λ x. n * x) (pow-suc 10 k) ∙ sym (mul_assoc n (10 ^ k) 10) in
    rw e (mul-mod_left (n * 10 ^ k) 10)

-- a number with fewer places ends in a zero, when it is written with more
ends_in_zero : (m n p k : ℕ) → m * 10 ^ (p + suc k) ≡ n * 10 ^ p → n % 10 ≡ 0
ends_in_zero m n p k e =
    let same : (m * 10 ^ suc k) * 10 ^ p ≡ n * 10 ^ p = mul_assoc m (10 ^ suc k) (10 ^ p) ∙ ap (λ x. m * x) (mul_comm (10 ^ suc k) (10 ^ p) ∙ sym (pow-add 10 p (suc k))) ∙ e in
    let n_is : m * 10 ^ suc k ≡ n = eq_of_mul-eq-mul_right (10 ^ p) (ten_above_zero p) (m * 10 ^ suc k) n same in
    subst (λ x. x % 10 ≡ 0) n_is (ten_divides m k)

same_places : (m n p q : ℕ) → m * 10 ^ q ≡ n * 10 ^ p → (0 < p → m % 10 ≢ 0) → (0 < q → n % 10 ≢ 0) → p ≡ q
same_places m n p q e f g =
    by_order p q
    (λ h. let k : q ≡ p + suc (q - p - 1) = omega arith in absurd (g (omega arith) (ends_in_zero m n p (q - p - 1) (ap (λ x. m * 10 ^ x) (sym k) ∙ e))))
    (λ h. h)
    (λ h. let k : p ≡ q + suc (p - q - 1) = omega arith in absurd (f (omega arith) (ends_in_zero n m q (p - q - 1) (ap (λ x. n * 10 ^ x) (sym k) ∙ sym e))))

then_nothing : (o : Ordering) (p q : ℕ) → (o ≡ Equal → p ≡ q) → ordering_then o (nat_cmp p q) ≡ o
then_nothing Less p q f = refl
then_nothing Equal p q f = rw (f refl) (tied_itself nat_cmp_total q)
then_nothing Greater p q f = refl

equal_magnitudes : (x y : ℤ) (k l : ℕ) → int_cmp (x *ℤ pos k) (y *ℤ pos l) ≡ Equal → unsigned_abs x * k ≡ unsigned_abs y * l
equal_magnitudes x y k l h =
    let e : x *ℤ pos k ≡ y *ℤ pos l = int_ranked (x *ℤ pos k) (y *ℤ pos l) Equal (sym h) in
    sym (unsigned_abs-mul x (pos k)) ∙ ap unsigned_abs e ∙ unsigned_abs-mul y (pos l)

-- two numbers in normal form that are one number have the same places
pub value_cmp_equal : (a b : Decimal) → IsNormal a → IsNormal b → value_cmp a b ≡ Equal → a.places ≡ b.places
value_cmp_equal a b f g h =
    same_places (unsigned_abs a.coefficient) (unsigned_abs b.coefficient) a.places b.places (equal_magnitudes a.coefficient b.coefficient (10 ^ b.places) (10 ^ a.places) h) f.shortest g.shortest

-- so the order of numbers in normal form is that of the numbers
pub decimal_cmp-value_cmp : (a b : Decimal) → IsNormal a → IsNormal b → decimal_cmp a b ≡ value_cmp a b
decimal_cmp-value_cmp a b f g = then_nothing (value_cmp a b) a.places b.places (value_cmp_equal a b f g)
