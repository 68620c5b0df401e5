-- Each move of a hand keeps the rule.
use Rattle.std.proofs.Common.{◌≡◌, ◌≢◌, ℕ, zero, suc, ◌+◌, ◌-◌, ◌<◌, ◌≤◌, List, [], ◌∷◌, ◌++◌, set, sym, refl, ap, ◌∙◌, subst, ⊎_elim, arith, ◌==◌}
use Rattle.std.specs.Prelude.{if◌then◌else◌}
use Rattle.std.proofs.lemmas.Bool.Decides.{nat_tests}
use mathlib.Core.Option.{some, some-ne-none}
use lib.ListN.{get_elem?}
use Rattle.crossbeam_queue.specs.Fifo.{Pushes, Pops, Forks, Merges, Learns}
use Rattle.crossbeam_queue.proofs.Lists.{at_set, at_snoc}
use Rattle.slip_queue.specs.declared.hand.Hand.{Hand}
use Rattle.slip_queue.specs.declared.slips.Slip.{Slip}
use Rattle.slip_queue.specs.Slips.{all_parts, hand, is_given, numbers, times, total, IdleIsEmpty, Balanced}

some_is : (a b : Hand) → some a ≡ some b → a ≡ b
some_is a b e = cc

pub times_more : (x : ℕ) (xs ys : List ℕ) → times x (xs ++ ys) ≡ times x xs + times x ys
times_more x [] ys = omega arith
times_more x (y ∷ xs) ys = let h = times_more x xs ys in omega (arith, h)

total_set : (f : Hand → ℕ) (views : List Hand) (port : ℕ) (v w : Hand) → get_elem? views port ≡ some v → total f (set views port w) + f v ≡ total f views + f w
total_set f [] port v w at = absurd (some-ne-none v (sym at))
total_set f (x ∷ views) zero v w at = let e = ap f (some_is x v at) in omega (arith, e)
total_set f (x ∷ views) (suc port) v w at = let h = total_set f views port v w at in omega (arith, h)

total_more : (f : Hand → ℕ) (views : List Hand) (w : Hand) → total f (views ++ w ∷ []) ≡ total f views + f w
total_more f [] w = omega arith
total_more f (x ∷ views) w = let h = total_more f views w in omega (arith, h)

abbrev IsIdle : Hand → Type 0
IsIdle v = v.parts ≡ 0 → (v.put ≡ []) × (v.taken ≡ [])

idle_set : (views : List Hand) (port : ℕ) (w : Hand) → IsIdle w → IdleIsEmpty views → IdleIsEmpty (set views port w)
idle_set views port w mine others j u e = ⊎_elim (λ (x : (j ≡ port) × (w ≡ u)). subst IsIdle x.1 mine) (λ (x : (j ≢ port) × (get_elem? views j ≡ some u)). others j u x.1) (at_set views port j w u e)

idle_more : (views : List Hand) (w : Hand) → IsIdle w → IdleIsEmpty views → IdleIsEmpty (views ++ w ∷ [])
idle_more views w mine others j u e = ⊎_elim (λ (x : get_elem? views j ≡ some u). others j u x) (λ (x : w ≡ u). subst IsIdle x mine) (at_snoc views w u j e)

module _ {T : Type 0} where
  pub numbers_last : (x : ℕ) (ss : List (Slip T)) (s : Slip T) → times x (numbers (ss ++ s ∷ [])) ≡ times x (numbers ss) + (if s.number == x then 1 else 0)
  numbers_last x [] s = omega arith
  numbers_last x (r ∷ ss) s = let h = numbers_last x ss s in omega (arith, h)

  pub puts : (n port : ℕ) (v : Hand) (x : Slip T) → 0 < v.parts → Pushes (Balanced {T = T}) n port v x (λ w. w ≡ hand v.parts (v.put ++ x.number ∷ []) v.taken)
  puts n port v x some_part items views room b at =
      let w = hand v.parts (v.put ++ x.number ∷ []) v.taken in (
        w,
        (
          (let s = total_set (λ u. u.parts) views port v w at in let p = b.0 in omega arith),
          (λ y.
              let s = total_set (λ u. times y u.put) views port v w at in
              let t = total_set (λ u. times y u.taken) views port v w at in
              let p = b.1 y in
              omega (arith, times_more y v.put (x.number ∷ []), numbers_last y items x)),
          idle_set views port w (λ none. absurd (omega arith)) b.2,
        ),
        refl,
      )

  pub takes : (port : ℕ) (v : Hand) → 0 < v.parts → Pops (Balanced {T = T}) port v (λ (x : Slip T) w. w ≡ hand v.parts v.put (v.taken ++ x.number ∷ []))
  takes port v some_part x items views b at =
      let w = hand v.parts v.put (v.taken ++ x.number ∷ []) in (
        w,
        (
          (let s = total_set (λ u. u.parts) views port v w at in let p = b.0 in omega arith),
          (λ y.
              let s = total_set (λ u. times y u.put) views port v w at in
              let t = total_set (λ u. times y u.taken) views port v w at in
              let p = b.1 y in
              omega (arith, times_more y v.taken (x.number ∷ []))),
          idle_set views port w (λ none. absurd (omega arith)) b.2,
        ),
        refl,
      )

  pub forks : (port : ℕ) (v : Hand) → 1 < v.parts → Forks (Balanced {T = T}) port v (hand (v.parts - 1) v.put v.taken) (hand 1 [] [])
  forks port v some_parts items views b at =
      let l = hand (v.parts - 1) v.put v.taken in let r = hand 1 [] [] in (
        (let s = total_set (λ u. u.parts) views port v l at in let t = total_more (λ u. u.parts) (set views port l) r in let p = b.0 in omega arith),
        (λ y.
            let s = total_set (λ u. times y u.put) views port v l at in
            let t = total_set (λ u. times y u.taken) views port v l at in
            let s' = total_more (λ u. times y u.put) (set views port l) r in
            let t' = total_more (λ u. times y u.taken) (set views port l) r in
            let p = b.1 y in
            omega arith),
        idle_more (set views port l) r (λ none. (refl, refl)) (idle_set views port l (λ none. absurd (omega arith)) b.2),
      )

  pub merges : (port : ℕ) (v : Hand) (other : ℕ) (u : Hand) → 0 < v.parts → Merges (Balanced {T = T}) port v other u (hand (v.parts + u.parts) (v.put ++ u.put) (v.taken ++ u.taken)) (hand 0 [] [])
  merges port v other u some_part items views b at two at' =
      let w = hand (v.parts + u.parts) (v.put ++ u.put) (v.taken ++ u.taken) in let o = hand 0 [] [] in let vs = set views port w in (
        (let s = total_set (λ u. u.parts) views port v w at in let t = total_set (λ u. u.parts) vs other u o at' in let p = b.0 in omega arith),
        (λ y.
            let s = total_set (λ u. times y u.put) views port v w at in
            let t = total_set (λ u. times y u.taken) views port v w at in
            let s' = total_set (λ u. times y u.put) vs other u o at' in
            let t' = total_set (λ u. times y u.taken) vs other u o at' in
            let p = b.1 y in
            omega (arith, times_more y v.put u.put, times_more y v.taken u.taken)),
        idle_set vs other o (λ none. (refl, refl)) (idle_set views port w (λ none. absurd (omega arith)) b.2),
      )

-- where one pass has all parts, the others count for nothing
none_count : (f : Hand → ℕ) (views : List Hand) → ((j : ℕ) (u : Hand) → get_elem? views j ≡ some u → u.parts ≡ 0 → f u ≡ 0) → total (λ v. v.parts) views ≡ 0 → total f views ≡ 0
none_count f [] idle empty = refl
none_count f (x ∷ views) idle empty =
    let h = none_count f views (λ j u at. idle (suc j) u at) (omega arith) in let e = idle 0 x refl (omega arith) in omega (arith, h, e)

parts_of : (views : List Hand) (port : ℕ) (v : Hand) → get_elem? views port ≡ some v → v.parts ≤ total (λ v. v.parts) views
parts_of [] port v at = absurd (some-ne-none v (sym at))
parts_of (x ∷ views) zero v at = let e = ap (λ (h : Hand). h.parts) (some_is x v at) in omega (arith, e)
parts_of (x ∷ views) (suc port) v at = let h = parts_of views port v at in omega (arith, h)

alone : (f : Hand → ℕ) (views : List Hand) (port : ℕ) (v : Hand) → get_elem? views port ≡ some v → ((j : ℕ) (u : Hand) → get_elem? views j ≡ some u → u.parts ≡ 0 → f u ≡ 0)
    → total (λ v. v.parts) views ≡ v.parts → total f views ≡ f v
alone f [] port v at idle all = absurd (some-ne-none v (sym at))
alone f (x ∷ views) zero v at idle all =
    let e = ap (λ (h : Hand). h.parts) (some_is x v at) in let e' = ap f (some_is x v at) in
    let h = none_count f views (λ j u at. idle (suc j) u at) (omega (arith, e)) in omega (arith, h, e')
alone f (x ∷ views) (suc port) v at idle all =
    let p = parts_of views port v at in
    let h = alone f views port v at (λ j u at. idle (suc j) u at) (omega (arith, p)) in
    let e = idle 0 x refl (omega (arith, p)) in omega (arith, h, e)

module _ {T : Type 0} where
  pub learns : (port : ℕ) (v : Hand) → v.parts ≡ all_parts → Learns (Balanced {T = T}) port v (λ items. (x : ℕ) → times x v.put ≡ times x v.taken + times x (numbers items))
  learns port v whole items views b at x =
      let s = alone (λ u. times x u.put) views port v at (λ j u here none. ap (times x) (b.2 j u here none).0) (b.0 ∙ sym whole) in
      let t = alone (λ u. times x u.taken) views port v at (λ j u here none. ap (times x) (b.2 j u here none).1) (b.0 ∙ sym whole) in
      let p = b.1 x in
      omega (arith, s, t, p)

-- one number more
given_more : (x n : ℕ) → is_given x n + (if n + 1 == x then 1 else 0) ≡ is_given x (n + 1)
given_more x n = grind (arith, nat_tests)

pub put_more : (xs : List ℕ) (n : ℕ) → ((x : ℕ) → times x xs ≡ is_given x n) → (x : ℕ) → times x (xs ++ (n + 1) ∷ []) ≡ is_given x (n + 1)
put_more xs n all x = let h = all x in let e = times_more x xs ((n + 1) ∷ []) in let m = given_more x n in omega (arith, h, e, m)
