-- The order of decimal numbers is total, and tells apart any two that differ.
use Rattle.std.proofs.lemmas.Bool.{and_parts}
use Rattle.std.specs.Prelude.{◌≡◌, ℕ, zero, suc, ◌*◌, ◌^◌, ◌<◌, ℤ, pos, negsuc, neg_ℤ, ◌*ℤ◌, ◌<ℤ◌, Bool, true, false, ◌&&◌, ◌==◌, refl}
use Rattle.std.specs.declared.cmp.Ordering.{Ordering}
use Rattle.std.specs.declared.cmp.Ordering.TheVariants.{Less, Equal, Greater}
use Rattle.std.specs.Ordering.{MatchOrdering, nat_cmp, int_cmp, int_eq, is_eq, ordering_then}
use Rattle.std.specs.Cmp.{IsTotalOrder, ranked, int_ranks, int_cmp_is, int_cmp_total, nat_cmp_total, then_total, on_total, tied_itself, int_eq_equiv, nat_eq_equiv}
use Rattle.std.proofs.Common.{arith, sym, ◌∙◌, ap, ap₂, subst, eqb-true}
use Rattle.std.proofs.lemmas.Int.{ints}
use Rattle.std.proofs.Math.Nat.{mul_assoc, mul_comm, one-le-pow, mul-lt-mul_of_pos_right, mul-le-mul_right}
use Rattle.attr_values.specs.Decimal.{Decimal, value_cmp, decimal_cmp}

mul_below : (m n k : ℕ) → 0 < k → m < n → m * k < n * k
mul_below m n k h l = mul-lt-mul_of_pos_right l h

mul_above_zero : (m k : ℕ) → 0 < k → 0 < suc m * k
mul_above_zero m k h = omega (arith, mul-le-mul_right {m = 1} {n = suc m} k (omega arith))

minus_below : (m n : ℕ) → m < n → neg_ℤ (pos n) <ℤ neg_ℤ (pos m)
minus_below m n h = omega (arith, ints)

minus_below_plus : (m n : ℕ) → 0 < m → neg_ℤ (pos m) <ℤ pos n
minus_below_plus m n h = omega (arith, ints)

scaled_below : (a b : ℤ) (k : ℕ) → 0 < k → a <ℤ b → (a *ℤ pos k) <ℤ (b *ℤ pos k)
scaled_below (pos a) (pos b) k h l = let e : a < b = omega (arith, ints) in let f = mul_below a b k h e in omega (arith, ints)
scaled_below (pos a) (negsuc b) k h l = absurd l.lt
scaled_below (negsuc a) (pos b) k h l = minus_below_plus (suc a * k) (b * k) (mul_above_zero a k h)
scaled_below (negsuc a) (negsuc b) k h l = let e : suc b < suc a = omega (arith, ints) in minus_below (suc b * k) (suc a * k) (mul_below (suc b) (suc a) k h e)

scaled_ranks : (o : Ordering) (a b : ℤ) (k : ℕ) → 0 < k → MatchOrdering o (a <ℤ b) (a ≡ b) (b <ℤ a)
    → MatchOrdering o ((a *ℤ pos k) <ℤ (b *ℤ pos k)) (a *ℤ pos k ≡ b *ℤ pos k) ((b *ℤ pos k) <ℤ (a *ℤ pos k))
scaled_ranks Less a b k h l = scaled_below a b k h l
scaled_ranks Equal a b k h e = ap (λ z. z *ℤ pos k) e
scaled_ranks Greater a b k h l = scaled_below b a k h l

-- a common factor leaves the order as it is
pub int_cmp-scaled : (a b : ℤ) (k : ℕ) → 0 < k → int_cmp (a *ℤ pos k) (b *ℤ pos k) ≡ int_cmp a b
int_cmp-scaled a b k h = sym (int_cmp_is _ _ _ (scaled_ranks (int_cmp a b) a b k h (int_ranks a b)))

minus_scaled : (m k : ℕ) → neg_ℤ (pos m) *ℤ pos k ≡ neg_ℤ (pos (m * k))
minus_scaled zero k = let e : 0 * k ≡ 0 = omega arith in rw e refl
minus_scaled (suc m) k = refl

scaled_twice : (z : ℤ) (j k : ℕ) → (z *ℤ pos j) *ℤ pos k ≡ z *ℤ pos (j * k)
scaled_twice (pos a) j k = ap pos (mul_assoc a j k)
scaled_twice (negsuc a) j k = minus_scaled (suc a * j) k ∙ ap (λ n. neg_ℤ (pos n)) (mul_assoc (suc a) j k)

ten_above_zero : (p : ℕ) → 0 < 10 ^ p
ten_above_zero p = one-le-pow p 10 (omega arith)

-- the order of two numbers, with their fractions at a denominator of three factors
at_three : (a b : Decimal) (r : ℕ) → value_cmp a b ≡ int_cmp (a.coefficient *ℤ pos (10 ^ b.places * 10 ^ r)) (b.coefficient *ℤ pos (10 ^ a.places * 10 ^ r))
at_three a b r =
    sym (int_cmp-scaled (a.coefficient *ℤ pos (10 ^ b.places)) (b.coefficient *ℤ pos (10 ^ a.places)) (10 ^ r) (ten_above_zero r))
    ∙ rw (scaled_twice, scaled_twice) refl

turned : (z : ℤ) (j k : ℕ) → z *ℤ pos (j * k) ≡ z *ℤ pos (k * j)
turned z j k = ap (λ n. z *ℤ pos n) (mul_comm j k)

-- a, b and c with their fractions at one denominator
at_one : (a b c : Decimal) → (value_cmp a b ≡ int_cmp (a.coefficient *ℤ pos (10 ^ b.places * 10 ^ c.places)) (b.coefficient *ℤ pos (10 ^ a.places * 10 ^ c.places)))
    × (value_cmp b c ≡ int_cmp (b.coefficient *ℤ pos (10 ^ a.places * 10 ^ c.places)) (c.coefficient *ℤ pos (10 ^ a.places * 10 ^ b.places)))
    × (value_cmp a c ≡ int_cmp (a.coefficient *ℤ pos (10 ^ b.places * 10 ^ c.places)) (c.coefficient *ℤ pos (10 ^ a.places * 10 ^ b.places)))
at_one a b c =
    let bc : value_cmp b c ≡ int_cmp (b.coefficient *ℤ pos (10 ^ a.places * 10 ^ c.places)) (c.coefficient *ℤ pos (10 ^ a.places * 10 ^ b.places)) =
    at_three b c a.places ∙ ap (λ z. int_cmp z (c.coefficient *ℤ pos (10 ^ b.places * 10 ^ a.places))) (turned b.coefficient (10 ^ c.places) (10 ^ a.places))
    ∙ ap (int_cmp (b.coefficient *ℤ pos (10 ^ a.places * 10 ^ c.places))) (turned c.coefficient (10 ^ b.places) (10 ^ a.places)) in
    let ac : value_cmp a c ≡ int_cmp (a.coefficient *ℤ pos (10 ^ b.places * 10 ^ c.places)) (c.coefficient *ℤ pos (10 ^ a.places * 10 ^ b.places)) =
    at_three a c b.places ∙ ap (λ z. int_cmp z (c.coefficient *ℤ pos (10 ^ a.places * 10 ^ b.places))) (turned a.coefficient (10 ^ c.places) (10 ^ b.places)) in
    (at_three a b c.places, bc, ac)

value_cmp_total : IsTotalOrder value_cmp
value_cmp_total = record {
  antisymm = λ a b. int_cmp_total.antisymm (a.coefficient *ℤ pos (10 ^ b.places)) (b.coefficient *ℤ pos (10 ^ a.places));
  trans = λ a b c h k.
      let e = at_one a b c in
      e.2 ∙ int_cmp_total.trans (a.coefficient *ℤ pos (10 ^ b.places * 10 ^ c.places)) (b.coefficient *ℤ pos (10 ^ a.places * 10 ^ c.places))
      (c.coefficient *ℤ pos (10 ^ a.places * 10 ^ b.places)) (sym e.0 ∙ h) (sym e.1 ∙ k);
  congr = λ a b c h.
      let e = at_one a b c in
      e.2 ∙ int_cmp_total.congr (a.coefficient *ℤ pos (10 ^ b.places * 10 ^ c.places)) (b.coefficient *ℤ pos (10 ^ a.places * 10 ^ c.places))
      (c.coefficient *ℤ pos (10 ^ a.places * 10 ^ b.places)) (sym e.0 ∙ h) ∙ sym e.1;
}

pub decimal_cmp_total : IsTotalOrder decimal_cmp
decimal_cmp_total = then_total value_cmp_total (on_total (λ (d : Decimal). d.places) nat_cmp_total)

then_equal : (o p : Ordering) → ordering_then o p ≡ Equal → (o ≡ Equal) × (p ≡ Equal)
then_equal Less p h = cc
then_equal Equal p h = (refl, h)
then_equal Greater p h = cc

int_cmp_equal : (a b : ℤ) → int_cmp a b ≡ Equal → a ≡ b
int_cmp_equal a b h = subst (λ o. MatchOrdering o (a <ℤ b) (a ≡ b) (b <ℤ a)) h (int_ranks a b)

nat_cmp_equal : (a b : ℕ) → nat_cmp a b ≡ Equal → a ≡ b
nat_cmp_equal a b h = ranked a b Equal (sym h)

same_coefficient : (a b : ℤ) (p q : ℕ) → p ≡ q → int_cmp (a *ℤ pos (10 ^ q)) (b *ℤ pos (10 ^ p)) ≡ Equal → a ≡ b
same_coefficient a b p q e h =
    int_cmp_equal a b (sym (int_cmp-scaled a b (10 ^ q) (ten_above_zero q)) ∙ subst (λ n. int_cmp (a *ℤ pos (10 ^ q)) (b *ℤ pos (10 ^ n)) ≡ Equal) e h)

-- the order tells apart any two that differ
pub decimal_cmp_equal : (a b : Decimal) → decimal_cmp a b ≡ Equal → a ≡ b
decimal_cmp_equal a b h =
    let both = then_equal (value_cmp a b) (nat_cmp a.places b.places) h in
    let places : a.places ≡ b.places = nat_cmp_equal a.places b.places both.1 in
    let coefficients : a.coefficient ≡ b.coefficient = same_coefficient a.coefficient b.coefficient a.places b.places places both.0 in
    ap₂ (λ (c : ℤ) (p : ℕ). let d : Decimal = record { coefficient = c; places = p } in d) coefficients places

both_ways : (x y : Bool) → (x ≡ true → y ≡ true) → (y ≡ true → x ≡ true) → x ≡ y
both_ways true y f g = sym (f refl)
both_ways false true f g = g refl
both_ways false false f g = refl

is_equal : (o : Ordering) → is_eq o ≡ true → o ≡ Equal
is_equal Less h = cc
is_equal Equal h = refl
is_equal Greater h = cc

tied_to_itself : (a : Decimal) → (int_eq a.coefficient a.coefficient && a.places == a.places) ≡ true
tied_to_itself a = rw (int_eq_equiv.refl a.coefficient, nat_eq_equiv.refl a.places) refl

same_fields : (a b : Decimal) → (int_eq a.coefficient b.coefficient && a.places == b.places) ≡ true → a ≡ b
same_fields a b h =
    let both = and_parts _ _ h in
    ap₂ (λ (c : ℤ) (p : ℕ). let d : Decimal = record { coefficient = c; places = p } in d)
    (int_cmp_equal a.coefficient b.coefficient (is_equal _ both.0)) (eqb-true a.places b.places both.1)

-- `==` and the order tell apart the same pairs
pub decimal_tied : (a b : Decimal) → (int_eq a.coefficient b.coefficient && a.places == b.places) ≡ is_eq (decimal_cmp a b)
decimal_tied a b = both_ways _ _
    (λ h. subst (λ (d : Decimal). is_eq (decimal_cmp a d) ≡ true) (same_fields a b h) (ap is_eq (tied_itself decimal_cmp_total a)))
    (λ h. subst (λ (d : Decimal). (int_eq a.coefficient d.coefficient && a.places == d.places) ≡ true) (decimal_cmp_equal a b (is_equal _ h)) (tied_to_itself a))
