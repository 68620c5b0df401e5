-- The steps after one are the least set of its consequences. Here the names of some steps stand once among them.
use Rattle.std.proofs.Common.{◌≡◌, Bool, true, false, List, [], ◌∷◌, ◌++◌, refl, ap, sym, subst, ◌∙◌, inl, inr, append_assoc}
use Rattle.std.specs.Prelude.{◌⊎◌, not, filter}
use Rattle.trace_theory.specs.Traces.{Machine, Occurrence, In, Before, needs, is_among, without, consequences_from, consequences, HasNames, HoldsConsequences, IsLeast, LeastConsequences}
use Rattle.trace_theory.proofs.Lists.{by_bool, In-back, In-others, place, here, Before-back, Before-across, Before-others, Before-filter, compared, behind_place, Before-behind, not_among_others, filter-middle}
use Rattle.trace_theory.proofs.After.{OneMore, one_more, consequences_from-in, consequences_from-ordered, consequences_from-marked, consequences_from-closed, consequences_from-least, consequences_from-more, consequences_from-cut, consequences_from-none}

module _ {W N F S : Type 0} (m : Machine W N F S) (base : W) (names : HasNames m base) where
  -- the names of some steps stand once among them
  abbrev pub Once : List (Occurrence N F S) → Type 0
  Once ts = (x y : Occurrence N F S) → Before x y ts → m.is_same x.step y.step ≡ false

  pub never_twice : (ts : List (Occurrence N F S)) → Once ts → (x : Occurrence N F S) → Before x x ts → ⊥
  never_twice ts once x b = let e = once x x b in let f = names.itself x.step in cc

  pub not_backward : (x y : N) → m.is_same x y ≡ false → m.is_same y x ≡ false
  not_backward x y h = by_bool (m.is_same y x) (m.is_same y x ≡ false) (λ k. let e = names.alike y x k in absurd (cc)) (λ k. k)

  -- two of them of one name are one
  pub one_step : (ts : List (Occurrence N F S)) → Once ts → (x y : Occurrence N F S) → In x ts → In y ts → m.is_same x.step y.step ≡ true → x ≡ y
  one_step ts once x y i j h = elim (compared x y ts i j) [
    | inl e ↦ e
    | inr c ↦ elim c [ inl b ↦ (let f = once x y b in absurd (cc)) | inr b ↦ (let f = not_backward y.step x.step (once y x b) in absurd (cc)) ]
  ]

  pub Once-others : (front back : List (Occurrence N F S)) (t : Occurrence N F S) → Once (front ++ t ∷ back) → Once (front ++ back)
  Once-others front back t once x y b = once x y (Before-others x y t front back b)

  pub Once-filter : (p : Occurrence N F S → Bool) (ts : List (Occurrence N F S)) → Once ts → Once (filter p ts)
  Once-filter p ts once x y b = once x y (Before-filter p ts x y b)

  -- a member at its place
  pub at_place : (P : List (Occurrence N F S) → Type 0) (ts : List (Occurrence N F S)) (s : Occurrence N F S) → ((front back : List (Occurrence N F S)) → ts ≡ front ++ s ∷ back → Once (front ++ s ∷ back) → P (front ++ s ∷ back)) → Once ts → In s ts → P ts
  at_place P ts s h once i = let p = place s ts i in subst P (sym p.whole) (h p.front p.back p.whole (subst Once p.whole once))

  -- ---- one step left out

  pub without_one : (front back : List (Occurrence N F S)) (t : Occurrence N F S) → Once (front ++ t ∷ back) → without m (t ∷ []) (front ++ t ∷ back) ≡ front ++ back
  without_one front back t once =
      filter-middle (λ x. not (is_among m (t ∷ []) x)) front back t
      (λ y i. let e = other y i in rw e)
      (let e = names.itself t.step in rw e)
    where
      other : (y : Occurrence N F S) → In y (front ++ back) → m.is_same t.step y.step ≡ false
      other y i = by_bool (m.is_same t.step y.step) (m.is_same t.step y.step ≡ false)
          (λ k. absurd (not_among_others t front back (never_twice (front ++ t ∷ back) once) (subst (λ (z : Occurrence N F S). In z (front ++ back)) (sym (one_step (front ++ t ∷ back) once t y (here t front back) (In-others y t front back i) k)) i)))
          (λ k. k)

  -- ---- after, where its step stands

  pub after_found : (front back : List (Occurrence N F S)) (s : Occurrence N F S) → ((y : Occurrence N F S) → In y front → m.is_same s.step y.step ≡ false) → consequences m (front ++ s ∷ back) s.step ≡ s ∷ consequences_from m (s ∷ []) back
  after_found [] back s h = let e = names.itself s.step in rw e
  after_found (z ∷ front) back s h = let e = h z (inl refl) in rw e (after_found front back s (λ y i. h y (inr i)))

  pub not_in_front : (front back : List (Occurrence N F S)) (s : Occurrence N F S) → Once (front ++ s ∷ back) → (y : Occurrence N F S) → In y front → m.is_same s.step y.step ≡ false
  not_in_front front back s once y i = not_backward y.step s.step (once y s (Before-across y s front (s ∷ back) i (inl refl)))

  pub after_at : (front back : List (Occurrence N F S)) (s : Occurrence N F S) → Once (front ++ s ∷ back) → consequences m (front ++ s ∷ back) s.step ≡ s ∷ consequences_from m (s ∷ []) back
  after_at front back s once = after_found front back s (not_in_front front back s once)

  least_at : (front back : List (Occurrence N F S)) (s : Occurrence N F S) → Once (front ++ s ∷ back) → IsLeast m (front ++ s ∷ back) s (s ∷ consequences_from m (s ∷ []) back)
  least_at front back s once = record {
    of_them = λ x i. of_them x i;
    holds = record { itself = inl refl; closed = λ x y b i d. closed x y b i d };
    least = λ other h x i. least other h x i;
  }
    where
      of_them : (x : Occurrence N F S) → In x (s ∷ consequences_from m (s ∷ []) back) → In x (front ++ s ∷ back)
      of_them x (inl e) = In-back x front (s ∷ back) (inl e)
      of_them x (inr i) = In-back x front (s ∷ back) (inr (consequences_from-in m (s ∷ []) back x i))

      twice : (z : Occurrence N F S) → Before z z (front ++ s ∷ back) → ⊥
      twice = never_twice (front ++ s ∷ back) once

      twice_back : (z : Occurrence N F S) → Before z z (s ∷ back) → ⊥
      twice_back z b = twice z (Before-back z z front (s ∷ back) b)

      closed : (x y : Occurrence N F S) → Before x y (front ++ s ∷ back) → In x (s ∷ consequences_from m (s ∷ []) back) → needs m x y ≡ true → In y (s ∷ consequences_from m (s ∷ []) back)
      closed x y b (inl e) d =
          let b' : Before s y (front ++ s ∷ back) = subst (λ (z : Occurrence N F S). Before z y (front ++ s ∷ back)) e b in
          inr (consequences_from-marked m (s ∷ []) back s y (inl refl) (behind_place s y front back twice b') (ap (λ (z : Occurrence N F S). needs m z y) (sym e) ∙ d))
      closed x y b (inr i) d =
          let j = consequences_from-in m (s ∷ []) back x i in
          let b' = Before-behind x y front (s ∷ back) twice (inr j) b in
          let b'' = Before-behind x y (s ∷ []) back twice_back j b' in
          inr (consequences_from-closed m (s ∷ []) back x y (λ z c. twice_back z (inr c)) b'' i d)

      least : (other : List (Occurrence N F S)) → HoldsConsequences m (front ++ s ∷ back) s other → (x : Occurrence N F S) → In x (s ∷ consequences_from m (s ∷ []) back) → In x other
      least other h x (inl e) = subst (λ (z : Occurrence N F S). In z other) (sym e) h.itself
      least other h x (inr i) = consequences_from-least m other (s ∷ []) back
          (λ z a. elim a [ inl e ↦ subst (λ (u : Occurrence N F S). In u other) (sym e) h.itself | inr n ↦ absurd n ])
          (λ z y a. h.closed z y (Before-back z y front (s ∷ back) (elim a [ inl b ↦ elim b.0 [ inl e ↦ inl (e, b.1) | inr n ↦ absurd n ] | inr b ↦ inr b ])))
          x i

  pub least_of : (ts : List (Occurrence N F S)) (s : Occurrence N F S) → Once ts → In s ts → IsLeast m ts s (consequences m ts s.step)
  least_of ts s once i = at_place (λ l. IsLeast m l s (consequences m l s.step)) ts s (λ front back e o. subst (λ set. IsLeast m (front ++ s ∷ back) s set) (sym (after_at front back s o)) (least_at front back s o)) once i

  pub least_consequences : LeastConsequences m base
  least_consequences v ts s h i = least_of ts s (λ x y b. names.once ts v x y h b) i

  pub consequences-ordered : (ts : List (Occurrence N F S)) (s : N) (x y : Occurrence N F S) → Before x y (consequences m ts s) → Before x y ts
  consequences-ordered [] s x y b = absurd b
  consequences-ordered (t ∷ ts) s x y b =
      by_bool (m.is_same s t.step) (Before x y (t ∷ ts))
      (λ k. elim (rw k at b) as (λ _. Before x y (t ∷ ts)) [ inl e ↦ inl (e.0, consequences_from-in m (t ∷ []) ts y e.1) | inr c ↦ inr (consequences_from-ordered m (t ∷ []) ts x y c) ])
      (λ k. inr (consequences-ordered ts s x y (rw k at b)))

  pub consequences-in : (ts : List (Occurrence N F S)) (s : N) (x : Occurrence N F S) → In x (consequences m ts s) → In x ts
  consequences-in [] s x i = absurd i
  consequences-in (t ∷ ts) s x i =
      by_bool (m.is_same s t.step) (In x (t ∷ ts))
      (λ k. elim (rw k at i) as (λ _. In x (t ∷ ts)) [ inl e ↦ inl e | inr c ↦ inr (consequences_from-in m (t ∷ []) ts x c) ])
      (λ k. inr (consequences-in ts s x (rw k at i)))

  -- a step that depends on nothing of it comes last
  pub consequences-more : (ts : List (Occurrence N F S)) (s t : Occurrence N F S) → Once ts → In s ts → ((x : Occurrence N F S) → In x (consequences m ts s.step) → needs m x t ≡ false) → consequences m (ts ++ t ∷ []) s.step ≡ consequences m ts s.step
  consequences-more ts s t once i h =
      at_place (λ l. ((x : Occurrence N F S) → In x (consequences m l s.step) → needs m x t ≡ false) → consequences m (l ++ t ∷ []) s.step ≡ consequences m l s.step) ts s
      (λ front back e o k.
      let a = after_at front back s o in
      let k' = rw a at k in
      ap (λ (l : List (Occurrence N F S)). consequences m l s.step) (append_assoc front (s ∷ back) (t ∷ []))
      ∙ after_found front (back ++ t ∷ []) s (not_in_front front back s o)
      ∙ ap (λ (l : List (Occurrence N F S)). s ∷ l) (consequences_from-more m (s ∷ []) back t (λ x j. elim j [ inl f ↦ k' x (inl f) | inr n ↦ absurd n ]) (λ x j. k' x (inr j)))
      ∙ sym a)
      once i h

  -- another free step taken out of the middle goes from what comes after s, and nothing else does
  pub consequences-cut : (front back : List (Occurrence N F S)) (t : Occurrence N F S) (s : N) → m.is_same s t.step ≡ false → ((y : Occurrence N F S) → In y back → needs m t y ≡ false) → OneMore t (consequences m (front ++ t ∷ back) s) (consequences m (front ++ back) s) ⊎ (consequences m (front ++ t ∷ back) s ≡ consequences m (front ++ back) s)
  consequences-cut [] back t s e h = rw e (inr refl)
  consequences-cut (z ∷ front) back t s e h =
      by_bool (m.is_same s z.step) _
      (λ k. rw k (one_more z t _ _ (consequences_from-cut m (z ∷ []) front back t h)))
      (λ k. rw k (consequences-cut front back t s e h))

  -- a free step alone comes after itself
  pub consequences-free : (front back : List (Occurrence N F S)) (s : Occurrence N F S) → Once (front ++ s ∷ back) → ((y : Occurrence N F S) → In y back → needs m s y ≡ false) → consequences m (front ++ s ∷ back) s.step ≡ s ∷ []
  consequences-free front back s once h = after_at front back s once ∙ ap (λ (l : List (Occurrence N F S)). s ∷ l) (consequences_from-none m (s ∷ []) back (λ x y i j. elim i [ inl e ↦ ap (λ (z : Occurrence N F S). needs m z y) e ∙ h y j | inr n ↦ absurd n ]))
