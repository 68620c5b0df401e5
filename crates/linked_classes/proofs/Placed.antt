-- The place of a number among rising ones.
use Rattle.std.proofs.Common.{◌≡◌, ◌==◌, ◌<◌, arith, ℕ, zero, suc, List, [], ◌∷◌, None, Some, false, cond, eq-eqb, refl, ap, sym, ◌∙◌, inl, inr}
use Rattle.std.specs.Prelude.{nat_lt, slice_get}
use Rattle.std.proofs.lemmas.Bool.{cases_lt, lt-ltb, le-ltb}
use Rattle.std.proofs.lemmas.Bool.Decides.{eqb_tells}
use Rattle.std.proofs.lemmas.Option.{same_Some}
use Rattle.linked_classes.specs.Places.{IsNumber, IsRising, place_in}

unlike : (m n : ℕ) → m < n → (m == n) ≡ false
unlike m n h = elim (eqb_tells m n) [ inl w ↦ absurd (let e = w.1 in omega (arith, e, h)) | inr w ↦ w.0 ]

pub placed : (ns : List ℕ) → IsRising ns → (i n : ℕ) → slice_get ns i ≡ Some n → place_in ns n ≡ i
placed [] rise i n h = absurd (let e : None ≡ Some n = h in cc)
placed (m ∷ ms) rise zero n h = ap (λ b. cond b zero (suc (place_in ms n))) (eq-eqb m n (same_Some m n h))
placed (m ∷ ms) rise (suc i) n h =
    ap (λ b. cond b zero (suc (place_in ms n))) (unlike m n (rise.rises zero (suc i) m n (omega arith) refl h))
    ∙ ap suc (placed ms (record { rises = λ j k a b l x y. rise.rises (suc j) (suc k) a b (omega (arith, l)) x y }) i n h)

pub is_number : (ns : List ℕ) → IsRising ns → (i n : ℕ) → slice_get ns i ≡ Some n → IsNumber ns n
is_number ns rise i n h = ap (slice_get ns) (placed ns rise i n h) ∙ h

-- numbers are in the order of their places
pub lt_placed : (ns : List ℕ) → IsRising ns → (m n : ℕ) → IsNumber ns m → IsNumber ns n → nat_lt m n ≡ nat_lt (place_in ns m) (place_in ns n)
lt_placed ns rise m n a b = elim (cases_lt (place_in ns m) (place_in ns n)) [
  | inl w ↦ lt-ltb m n (rise.rises (place_in ns m) (place_in ns n) m n w a b) ∙ sym (lt-ltb (place_in ns m) (place_in ns n) w)
  | inr w ↦ elim (cases_lt (place_in ns n) (place_in ns m)) [
    | inl v ↦ le-ltb m n (let l = rise.rises (place_in ns n) (place_in ns m) n m v b a in omega (arith, l)) ∙ sym (le-ltb (place_in ns m) (place_in ns n) w)
    | inr v ↦
        let e : place_in ns m ≡ place_in ns n = omega (arith, w, v) in
        let s = same_Some m n (sym a ∙ ap (slice_get ns) e ∙ b) in
        le-ltb m n (omega (arith, s)) ∙ sym (le-ltb (place_in ns m) (place_in ns n) w)
  ]
]
