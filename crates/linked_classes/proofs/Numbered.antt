-- Places and their numbers, as places come and go.
use Rattle.std.proofs.Common.{◌≡◌, ◌≢◌, ◌<◌, ◌≤◌, ◌+◌, arith, ℕ, zero, suc, List, [], ◌∷◌, ◌++◌, Option, None, Some, Result, Ok, Err, get_or, length, map, refl, ap, ap₂, sym, subst, ◌∙◌, inl, inr}
use Rattle.std.specs.Prelude.{slice_get, option_map}
use Rattle.std.specs.List.{remove}
use Rattle.std.specs.List.Sorted.{IsBinarySearchResult}
use Rattle.std.specs.Ordering.{nat_cmp}
use Rattle.std.specs.Result.{MatchResult}
use Rattle.std.proofs.lemmas.Bool.{cases_lt}
use Rattle.std.proofs.lemmas.List.Sorted.{searched}
use Rattle.std.proofs.lemmas.Option.{same_Some, slice_get-get_or, slice_get-map, slice_get_within, get_or_from_slice_get}
use Rattle.linked_classes.specs.Cells.{cell_at}
use Rattle.linked_classes.specs.Linked.{IsNearest, IsForemost, IsNext, IsBefore, IsFirst, IsLast, Rises, Falls}
use Rattle.linked_classes.specs.Places.{IsRising}
use Rattle.linked_classes.proofs.Gets.{one_or_other, older, newest}

same_Ok : (a b : ℕ) → ◌≡◌ {A = Result ℕ ℕ} (Ok a) (Ok b) → a ≡ b
same_Ok a b e = cc

-- ---- the class of a place is that of its number

pub class_here : (ns : List ℕ) (f : ℕ → Option ℕ) (i n : ℕ) → slice_get ns i ≡ Some n → cell_at (map f ns) i ≡ f n
class_here ns f i n h = get_or_from_slice_get (map f ns) i (f n) None (slice_get-map f ns i ∙ ap (option_map f) h)

pub number_of : (ns : List ℕ) (f : ℕ → Option ℕ) (i c : ℕ) → cell_at (map f ns) i ≡ Some c → (n : ℕ) × (slice_get ns i ≡ Some n) × (f n ≡ Some c)
number_of [] f i c h = absurd (let e : None ≡ Some c = h in cc)
number_of (m ∷ ms) f zero c h = (m, refl, h)
number_of (m ∷ ms) f (suc i) c h = number_of ms f i c h

pub there : (ns : List ℕ) (i : ℕ) → i < length ns → (n : ℕ) × (slice_get ns i ≡ Some n)
there [] i h = absurd (omega (arith, h))
there (m ∷ ms) zero h = (m, refl)
there (m ∷ ms) (suc i) h = there ms i (omega (arith, h))

-- ---- the place of a number

module _ (ns : List ℕ) (rise : IsRising ns) where
  ascending : (i j : ℕ) → i ≤ j → j < length ns → get_or ns i 0 ≤ get_or ns j 0
  ascending i j l w = elim (cases_lt i j) [
    | inl v ↦
        let a = there ns i (omega (arith, l, w)) in
        let b = there ns j w in
        let x = get_or_from_slice_get ns i a.0 0 a.1 in
        let y = get_or_from_slice_get ns j b.0 0 b.1 in
        let z = rise.rises i j a.0 b.0 v a.1 b.1 in
        omega (arith, x, y, z)
    | inr v ↦ let e : i ≡ j = omega (arith, l, v) in let x = ap (λ k. get_or ns k 0) e in omega (arith, x)
  ]

  missing : (x i : ℕ) (r : Result ℕ ℕ) → MatchResult r (λ p. (p < length ns) × (get_or ns p 0 ≡ x)) (λ p. (p ≤ length ns) × ((k : ℕ) → k < p → get_or ns k 0 < x) × ((k : ℕ) → p ≤ k → k < length ns → x < get_or ns k 0))
      → slice_get ns i ≡ Some x → (k : ℕ) → r ≡ Err k → ⊥
  missing x i (Ok p) h at k e = cc
  missing x i (Err p) h at k e =
      let same = get_or_from_slice_get ns i x 0 at in
      let within = slice_get_within ns i x at in
      elim (cases_lt i p) [ inl w ↦ let l = h.1 i w in omega (arith, l, same) | inr w ↦ let l = h.2 i w within in omega (arith, l, same) ]

  found : (x : ℕ) (r : Result ℕ ℕ) → MatchResult r (λ p. (p < length ns) × (get_or ns p 0 ≡ x)) (λ p. (p ≤ length ns) × ((k : ℕ) → k < p → get_or ns k 0 < x) × ((k : ℕ) → p ≤ k → k < length ns → x < get_or ns k 0))
      → (p : ℕ) → r ≡ Ok p → slice_get ns p ≡ Some x
  found x (Ok q) h p e = subst (λ k. slice_get ns k ≡ Some x) (same_Ok q p e) (slice_get-get_or ns q 0 h.0 ∙ ap Some h.1)
  found x (Err q) h p e = cc

  pub never_missing : (x i : ℕ) (r : Result ℕ ℕ) → IsBinarySearchResult (λ y. nat_cmp y x) ns r → slice_get ns i ≡ Some x → (k : ℕ) → r ≡ Err k → ⊥
  never_missing x i r h = missing x i r (searched ns x r h ascending)

  pub place_found : (x : ℕ) (r : Result ℕ ℕ) → IsBinarySearchResult (λ y. nat_cmp y x) ns r → (p : ℕ) → r ≡ Ok p → slice_get ns p ≡ Some x
  place_found x r h = found x r (searched ns x r h ascending)

-- ---- walks

module _ (ns : List ℕ) (rise : IsRising ns) where
  earlier : (i j m n : ℕ) → slice_get ns i ≡ Some m → slice_get ns j ≡ Some n → m < n → i < j
  earlier i j m n a b h = elim (cases_lt i j) [
    | inl w ↦ w
    | inr w ↦ absurd (elim (cases_lt j i) [
      | inl v ↦ let e = rise.rises j i n m v b a in omega (arith, e, h)
      | inr v ↦ let e : i ≡ j = omega (arith, w, v) in let s = same_Some m n (sym a ∙ ap (slice_get ns) e ∙ b) in omega (arith, s, h)
    ])
  ]

  -- different places have different numbers
  pub apart : (i j m n : ℕ) → slice_get ns i ≡ Some m → slice_get ns j ≡ Some n → i ≢ j → m ≢ n
  apart i j m n a b h e = elim (cases_lt i j) [
    | inl w ↦ let l = rise.rises i j m n w a b in omega (arith, l, e)
    | inr w ↦ elim (cases_lt j i) [
      | inl v ↦ let l = rise.rises j i n m v b a in omega (arith, l, e)
      | inr v ↦ h (omega (arith, w, v))
    ]
  ]

-- places are met in the order of their numbers, in either direction
module _ (ns : List ℕ) (R : ℕ → ℕ → Type 0)
    (up : (i j m n : ℕ) → slice_get ns i ≡ Some m → slice_get ns j ≡ Some n → R i j → R m n)
    (back : (i j m n : ℕ) → slice_get ns i ≡ Some m → slice_get ns j ≡ Some n → R m n → R i j)
    (f : ℕ → Option ℕ) (c : ℕ) where
  foremost_none : IsForemost R f c None → IsForemost R (cell_at (map f ns)) c None
  foremost_none h = λ k is. let m = number_of ns f k c is in h m.0 m.2

  foremost_place : (p n : ℕ) → slice_get ns p ≡ Some n → IsForemost R f c (Some n) → IsForemost R (cell_at (map f ns)) c (Some p)
  foremost_place p n at h = (
    class_here ns f p n at ∙ h.0,
    λ k below is. let m = number_of ns f k c is in h.1 m.0 (up k p m.0 n m.1 at below) m.2,
  )

  nearest_none : (i a : ℕ) → slice_get ns i ≡ Some a → IsNearest R f c a None → IsNearest R (cell_at (map f ns)) c i None
  nearest_none i a from h = λ k beyond is. let m = number_of ns f k c is in h m.0 (up i k a m.0 from m.1 beyond) m.2

  nearest_place : (i a p n : ℕ) → slice_get ns i ≡ Some a → slice_get ns p ≡ Some n → IsNearest R f c a (Some n) → IsNearest R (cell_at (map f ns)) c i (Some p)
  nearest_place i a p n from at h = (
    back i p a n from at h.0,
    class_here ns f p n at ∙ h.1,
    λ k beyond below is. let m = number_of ns f k c is in h.2 m.0 (up i k a m.0 from m.1 beyond) (up k p m.0 n m.1 at below) m.2,
  )

module _ (ns : List ℕ) (rise : IsRising ns) where
  rises : (i j m n : ℕ) → slice_get ns i ≡ Some m → slice_get ns j ≡ Some n → Rises i j → Rises m n
  rises i j m n a b h = rise.rises i j m n h a b

  falls : (i j m n : ℕ) → slice_get ns i ≡ Some m → slice_get ns j ≡ Some n → Falls i j → Falls m n
  falls i j m n a b h = rise.rises j i n m h b a

  falls_back : (i j m n : ℕ) → slice_get ns i ≡ Some m → slice_get ns j ≡ Some n → Falls m n → Falls i j
  falls_back i j m n a b h = earlier ns rise j i n m b a h

  pub first_none : (f : ℕ → Option ℕ) (c : ℕ) → IsFirst f c None → IsFirst (cell_at (map f ns)) c None
  first_none = foremost_none ns Rises rises (earlier ns rise)

  pub first_place : (f : ℕ → Option ℕ) (c p n : ℕ) → slice_get ns p ≡ Some n → IsFirst f c (Some n) → IsFirst (cell_at (map f ns)) c (Some p)
  first_place = foremost_place ns Rises rises (earlier ns rise)

  pub last_none : (f : ℕ → Option ℕ) (c : ℕ) → IsLast f c None → IsLast (cell_at (map f ns)) c None
  last_none = foremost_none ns Falls falls falls_back

  pub last_place : (f : ℕ → Option ℕ) (c p n : ℕ) → slice_get ns p ≡ Some n → IsLast f c (Some n) → IsLast (cell_at (map f ns)) c (Some p)
  last_place = foremost_place ns Falls falls falls_back

  pub next_none : (f : ℕ → Option ℕ) (c i a : ℕ) → slice_get ns i ≡ Some a → IsNext f c a None → IsNext (cell_at (map f ns)) c i None
  next_none = nearest_none ns Rises rises (earlier ns rise)

  pub next_place : (f : ℕ → Option ℕ) (c i a p n : ℕ) → slice_get ns i ≡ Some a → slice_get ns p ≡ Some n → IsNext f c a (Some n) → IsNext (cell_at (map f ns)) c i (Some p)
  next_place = nearest_place ns Rises rises (earlier ns rise)

  pub before_none : (f : ℕ → Option ℕ) (c i a : ℕ) → slice_get ns i ≡ Some a → IsBefore f c a None → IsBefore (cell_at (map f ns)) c i None
  before_none = nearest_none ns Falls falls falls_back

  pub before_place : (f : ℕ → Option ℕ) (c i a p n : ℕ) → slice_get ns i ≡ Some a → slice_get ns p ≡ Some n → IsBefore f c a (Some n) → IsBefore (cell_at (map f ns)) c i (Some p)
  before_place = nearest_place ns Falls falls falls_back

-- ---- functions that agree at some numbers

pub map_same : (ns : List ℕ) (f g : ℕ → Option ℕ) → ((i n : ℕ) → slice_get ns i ≡ Some n → g n ≡ f n) → map g ns ≡ map f ns
map_same [] f g h = refl
map_same (m ∷ ms) f g h = ap₂ (λ (x : Option ℕ) (xs : List (Option ℕ)). x ∷ xs) (h zero m refl) (map_same ms f g (λ i n k. h (suc i) n k))

-- ---- a place comes

pub more_rises : (ns : List ℕ) (end : ℕ) → IsRising ns → ((i n : ℕ) → slice_get ns i ≡ Some n → n < end) → IsRising (ns ++ end ∷ [])
more_rises ns end h below = record { rises = rises }
  where
    last_is : (i n : ℕ) → i ≡ length ns → slice_get (ns ++ end ∷ []) i ≡ Some n → n ≡ end
    last_is i n w is = sym (same_Some end n (sym (newest ns end) ∙ ap (slice_get (ns ++ end ∷ [])) (sym w) ∙ is))

    within : (i m : ℕ) → i ≢ length ns → slice_get (ns ++ end ∷ []) i ≡ Some m → i < length ns
    within i m w is = slice_get_within ns i m (sym (older ns end i w) ∙ is)

    rises : (i j m n : ℕ) → i < j → slice_get (ns ++ end ∷ []) i ≡ Some m → slice_get (ns ++ end ∷ []) j ≡ Some n → m < n
    rises i j m n l a b = elim (one_or_other j (length ns)) [
      | inl w ↦ let e = last_is j n w b in let x = below i m (sym (older ns end i (λ v. omega (arith, v, w, l))) ∙ a) in omega (arith, e, x)
      | inr w ↦ let far = within j n w b in h.rises i j m n l (sym (older ns end i (λ v. omega (arith, v, far, l))) ∙ a) (sym (older ns end j w) ∙ b)
    ]

pub more_below : (ns : List ℕ) (end : ℕ) → ((i n : ℕ) → slice_get ns i ≡ Some n → n < end) → (i n : ℕ) → slice_get (ns ++ end ∷ []) i ≡ Some n → n < end + 1
more_below ns end below i n is = elim (one_or_other i (length ns)) [
  | inl w ↦ let e = same_Some end n (sym (newest ns end) ∙ ap (slice_get (ns ++ end ∷ [])) (sym w) ∙ is) in omega (arith, e)
  | inr w ↦ let l = below i n (sym (older ns end i w) ∙ is) in omega (arith, l)
]

-- ---- a place goes

-- where the number of a place that is left stood
pub record Was (ns : List ℕ) (at i n : ℕ) : Type 0 where
  pub place : ℕ
  pub is : slice_get ns place ≡ Some n
  pub low : i < at → place ≡ i
  pub high : at ≤ i → place ≡ i + 1

pub was : (ns : List ℕ) (at i n : ℕ) → slice_get (remove ns at) i ≡ Some n → Was ns at i n
was [] zero i n h = absurd (let e : None ≡ Some n = h in cc)
was [] (suc at) i n h = absurd (let e : None ≡ Some n = h in cc)
was (x ∷ xs) zero i n h = record { place = suc i; is = h; low = λ l. absurd (omega (arith, l)); high = λ l. omega arith }
was (x ∷ xs) (suc at) zero n h = record { place = zero; is = h; low = λ l. refl; high = λ l. absurd (omega (arith, l)) }
was (x ∷ xs) (suc at) (suc i) n h =
    let w = was xs at i n h in
    record { place = suc w.place; is = w.is; low = λ l. ap suc (w.low (omega (arith, l))); high = λ l. let e = w.high (omega (arith, l)) in omega (arith, e) }

pub was_apart : (ns : List ℕ) (at i n : ℕ) (w : Was ns at i n) → w.place ≢ at
was_apart ns at i n w e = elim (cases_lt i at) [ inl l ↦ let k = w.low l in omega (arith, k, e, l) | inr l ↦ let k = w.high l in omega (arith, k, e, l) ]

pub less_rises : (ns : List ℕ) (at : ℕ) → IsRising ns → IsRising (remove ns at)
less_rises ns at h = record { rises = rises }
  where
    rises : (i j m n : ℕ) → i < j → slice_get (remove ns at) i ≡ Some m → slice_get (remove ns at) j ≡ Some n → m < n
    rises i j m n l a b =
        let v = was ns at i m a in
        let w = was ns at j n b in
        h.rises v.place w.place m n (elim (cases_lt i at) [
          | inl x ↦ elim (cases_lt j at) [ inl y ↦ let p = v.low x in let q = w.low y in omega (arith, p, q, l) | inr y ↦ let p = v.low x in let q = w.high y in omega (arith, p, q, l) ]
          | inr x ↦ elim (cases_lt j at) [ inl y ↦ absurd (omega (arith, x, y, l)) | inr y ↦ let p = v.high x in let q = w.high y in omega (arith, p, q, l) ]
        ]) v.is w.is

pub still : (ns : List ℕ) (at j n : ℕ) → slice_get ns j ≡ Some n → j ≢ at → (i : ℕ) × (slice_get (remove ns at) i ≡ Some n)
still [] at j n h apart = absurd (let e : None ≡ Some n = h in cc)
still (x ∷ xs) zero zero n h apart = absurd (apart refl)
still (x ∷ xs) zero (suc j) n h apart = (j, h)
still (x ∷ xs) (suc at) zero n h apart = (zero, h)
still (x ∷ xs) (suc at) (suc j) n h apart = let r = still xs at j n h (λ e. apart (ap suc e)) in (suc r.0, r.1)

pub map_remove : (ns : List ℕ) (at : ℕ) (f : ℕ → Option ℕ) → map f (remove ns at) ≡ remove (map f ns) at
map_remove [] zero f = refl
map_remove [] (suc at) f = refl
map_remove (x ∷ xs) zero f = refl
map_remove (x ∷ xs) (suc at) f = ap (λ (l : List (Option ℕ)). f x ∷ l) (map_remove xs at f)
