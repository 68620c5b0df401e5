-- How many passes can be made of one.
use Rattle.std.proofs.Common.{◌≡◌, ◌+◌, ◌-◌, ◌/◌, ◌*◌, ◌<◌, ◌≤◌, ℕ, zero, suc, List, [], ◌∷◌, ◌++◌, length, length-append, refl, arith}
use Rattle.std.specs.Prelude.{slice_get, IfSome}
use Rattle.shared_book.specs.Views.{PassView, first_half, second_half}
use Rattle.book_rounds.specs.Rounds.{AreFresh}

-- parts enough for so many seats more, and two at the end
pub needed : ℕ → ℕ
needed zero = 2
needed (suc n) = needed n + needed n

two_needed : (n : ℕ) → 2 ≤ needed n
unfolding needed
two_needed zero = omega arith
two_needed (suc n) = let h = two_needed n in omega (arith, h)

more_needed : (n m : ℕ) → n ≤ m → needed n ≤ needed m
unfolding needed
more_needed zero m less = two_needed m
more_needed (suc n) zero less = absurd (omega (arith, less))
more_needed (suc n) (suc m) less = let h = more_needed n m (omega (arith, less)) in omega (arith, h)

few_needed : (n : ℕ) → n ≤ 7 → needed n ≤ 65536
unfolding needed
few_needed n few = let h = more_needed n 7 few in omega (arith, h)

-- a seat leaves parts for the next ones, and has two
halved : (left parts : ℕ) → 0 < left → needed left ≤ parts → (needed (left - 1) ≤ parts - parts / 2) × (2 ≤ parts / 2)
unfolding needed
halved zero parts some has = absurd (omega (arith, some))
halved (suc n) parts some has =
    let less : suc n - 1 ≡ n = omega arith in
    let two = two_needed n in
    (rw less (omega (arith, has)), omega (arith, has, two))

-- so many passes are still to be made
pub record IsSeating (count left : ℕ) (first : PassView) (passes : List PassView) : Type 0 where
  pub parts : needed left ≤ first.parts
  pub none : first.receipts ≡ []
  pub fresh : AreFresh passes
  pub front : IfSome (slice_get passes 0) (λ p. 2 ≤ p.parts)
  pub counted : length passes + left + 1 ≡ count

pub can_seat : (count left : ℕ) (first : PassView) (passes : List PassView) → IsSeating count left first passes → 2 ≤ first.parts
can_seat count left first passes s = let two = two_needed left in let has = s.parts in omega (arith, two, has)

pub seats_begin : (count left : ℕ) (first : PassView) (passes : List PassView) → passes ≡ [] → left ≡ count - 1 → 1 ≤ count → count ≤ 8 → first.receipts ≡ [] → first.parts ≡ 65536
    → IsSeating count left first passes
seats_begin count left first passes empty is some few none whole =
    let low = few_needed left (omega (arith, is, few)) in
    rw empty (record { parts = omega (arith, whole, low); none = none; fresh = tt; front = tt; counted = omega (arith, is, some) })

fresh_more : (ps : List PassView) (p : PassView) → AreFresh ps → p.receipts ≡ [] → AreFresh (ps ++ p ∷ [])
fresh_more [] p fresh none = (none, tt)
fresh_more (q ∷ ps) p fresh none = (fresh.0, fresh_more ps p fresh.1 none)

front_more : (ps : List PassView) (p : PassView) → IfSome (slice_get ps 0) (λ q. 2 ≤ q.parts) → 2 ≤ p.parts → IfSome (slice_get (ps ++ p ∷ []) 0) (λ q. 2 ≤ q.parts)
front_more [] p front has = has
front_more (q ∷ ps) p front has = front

pub seat_more : (count left : ℕ) (first now pass : PassView) (passes more : List PassView) → 0 < left → IsSeating count left first passes → pass ≡ second_half first → now ≡ first_half first
    → more ≡ passes ++ pass ∷ [] → IsSeating count (left - 1) now more
seat_more count left first now pass passes more some s is half has =
    let parts = halved left first.parts some s.parts in
    rw (has, half, is) (record {
      parts = parts.0;
      none = s.none;
      fresh = fresh_more passes (second_half first) s.fresh refl;
      front = front_more passes (second_half first) s.front parts.1;
      counted = omega (arith, length-append passes (second_half first ∷ []), s.counted, some);
    })

pub seats_end : (count left : ℕ) (first : PassView) (passes more : List PassView) → left ≡ 0 → IsSeating count left first passes → more ≡ passes ++ first ∷ []
    → (length more ≡ count) × IfSome (slice_get more 0) (λ p. 2 ≤ p.parts) × AreFresh more
seats_end count left first passes more over s has =
    let two = can_seat count left first passes s in
    rw has (
      omega (arith, length-append passes (first ∷ []), s.counted, over),
      front_more passes first s.front two,
      fresh_more passes first s.fresh s.none,
    )
