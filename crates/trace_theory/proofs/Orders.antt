-- Allowed orders of undoings.
use Rattle.std.proofs.Common.{◌≡◌, Bool, true, false, cond, List, [], ◌∷◌, ◌++◌, length, arith, refl, ap, sym, subst, ◌∙◌, inl, inr}
use Rattle.std.specs.Prelude.{◌↔◌, not, ◌||◌, reverse}
use Rattle.std.proofs.lemmas.List.{append-nil, reverse-append, reverse-reverse, length-reverse}
use Rattle.trace_theory.specs.Traces.{Machine, Occurrence, In, Before, needs, undone, undo_each, is_among, without, consequences_from, consequences, IsMaximal, IsBackwardOrder, IsRun, IsReversible, HasNames, OrdersUndo}
use Rattle.trace_theory.proofs.Lists.{by_bool, In-back, In-middle, In-filter, In-kept, In-reverse, reverse-In, Before-second, Before-back, Before-across, Before-kept, never_both, filter-all, filter-twice, filter-same, any_alike}
use Rattle.trace_theory.proofs.Commuting.{free_steps_undo}
use Rattle.trace_theory.proofs.After.{consequences_from-in, consequences_from-marked, consequences_from-closed}
use Rattle.std.proofs.lemmas.Option.{same_Some}
use Rattle.trace_theory.proofs.Least.{Once, never_twice, not_backward, one_step, Once-filter, at_place, without_one, least_of, consequences-ordered, consequences-in, consequences-cut, consequences-free}

module _ {W N F S : Type 0} (m : Machine W N F S) (base : W) (names : HasNames m base) where
  -- ---- names left out

  pub unneeded_behind : (front back : List (Occurrence N F S)) (t : Occurrence N F S) → IsMaximal m (front ++ t ∷ back) t → (y : Occurrence N F S) → In y back → needs m t y ≡ false
  unneeded_behind front back t free y i = free.1 y (Before-back t y front (t ∷ back) (inl (refl, i)))

  pub without_none : (ts : List (Occurrence N F S)) → without m [] ts ≡ ts
  without_none ts = filter-all (λ t. not (is_among m [] t)) ts (λ x i. refl)

  pub without_more : (x : Occurrence N F S) (xs ts : List (Occurrence N F S)) → without m xs (without m (x ∷ []) ts) ≡ without m (x ∷ xs) ts
  without_more x xs ts =
      filter-twice (λ t. not (is_among m xs t)) (λ t. not (is_among m (x ∷ []) t)) ts
      ∙ filter-same (λ t. cond (not (is_among m (x ∷ []) t)) (not (is_among m xs t)) false) (λ t. not (is_among m (x ∷ xs) t)) ts (λ t i. tests (m.is_same x.step t.step) (is_among m xs t))
    where
      tests : (b c : Bool) → cond (not (b || false)) (not c) false ≡ not (b || c)
      tests true c = refl
      tests false c = refl

  pub without_alike : (xs ys ts : List (Occurrence N F S)) → ((x : Occurrence N F S) → In x xs → In x ys) → ((x : Occurrence N F S) → In x ys → In x xs) → without m xs ts ≡ without m ys ts
  without_alike xs ys ts f g = filter-same (λ t. not (is_among m xs t)) (λ t. not (is_among m ys t)) ts (λ t i. ap not (any_alike (λ (x : Occurrence N F S). m.is_same x.step t.step) xs ys f g))

  -- a step of another name stays
  pub stays : (ts : List (Occurrence N F S)) (x t : Occurrence N F S) → In t ts → m.is_same x.step t.step ≡ false → In t (without m (x ∷ []) ts)
  stays ts x t i e = In-kept (λ y. not (is_among m (x ∷ []) y)) ts t i (rw e)

  -- ---- each order

  pub allowed_in : (ts xs : List (Occurrence N F S)) → IsBackwardOrder m ts xs → (x : Occurrence N F S) → In x xs → In x ts
  allowed_in ts [] a x i = absurd i
  allowed_in ts (z ∷ xs) a x (inl e) = subst (λ (y : Occurrence N F S). In y ts) (sym e) a.0.0
  allowed_in ts (z ∷ xs) a x (inr i) = (In-filter (λ y. not (is_among m (z ∷ []) y)) ts x (allowed_in (without m (z ∷ []) ts) xs a.1 x i)).0

  pub order_closed : (ts xs : List (Occurrence N F S)) → Once m base names ts → IsBackwardOrder m ts xs → (x y : Occurrence N F S) → Before x y ts → In x xs → needs m x y ≡ true → In y xs
  order_closed ts [] once a x y b i d = absurd i
  order_closed ts (z ∷ xs) once a x y b (inl e) d = let f = a.0.1 y (subst (λ (u : Occurrence N F S). Before u y ts) e b) in let g = ap (λ (u : Occurrence N F S). needs m u y) e in absurd (cc)
  order_closed ts (z ∷ xs) once a x y b (inr i) d =
      by_bool (m.is_same z.step y.step) (In y (z ∷ xs))
      (λ k. inl (sym (one_step m base names ts once z y a.0.0 (Before-second x y ts b) k)))
      (λ k. by_bool (m.is_same z.step x.step) (In y (z ∷ xs))
      (λ j. let e : z ≡ x = one_step m base names ts once z x a.0.0 (allowed_in ts (z ∷ xs) a x (inr i)) j in let f = a.0.1 y (subst (λ (u : Occurrence N F S). Before u y ts) (sym e) b) in let g = ap (λ (u : Occurrence N F S). needs m u y) e in absurd (cc))
      (λ j. inr (order_closed (without m (z ∷ []) ts) xs (Once-filter m base names (λ t. not (is_among m (z ∷ []) t)) ts once) a.1 x y (Before-kept (λ t. not (is_among m (z ∷ []) t)) ts x y b (rw j) (rw k)) i d)))

  pub orders_hold_after : (v : W) (ts xs : List (Occurrence N F S)) (s x : Occurrence N F S) → IsRun m base ts v → IsBackwardOrder m ts xs → In s xs → In x (consequences m ts s.step) → In x xs
  orders_hold_after v ts xs s x h a i j =
      let once : Once m base names ts = λ y z b. names.once ts v y z h b in
      (least_of m base names ts s once (allowed_in ts xs a s i)).least xs (record { itself = i; closed = λ y z b k d. order_closed ts xs once a y z b k d }) x j

  -- ---- from the last to the first

  pub consequences-closed : (ts : List (Occurrence N F S)) (s : N) → Once m base names ts → (x y : Occurrence N F S) → In x (consequences m ts s) → Before x y ts → needs m x y ≡ true → In y (consequences m ts s)
  consequences-closed [] s once x y i b d = absurd i
  consequences-closed (t ∷ ts) s once x y i b d =
      by_bool (m.is_same s t.step) _
      (λ k. rw k (elim (rw k at i) as (λ _. In y (t ∷ consequences_from m (t ∷ []) ts)) [
        | inl e ↦ elim b [ inl c ↦ inr (consequences_from-marked m (t ∷ []) ts x y (inl e) c.1 d) | inr c ↦ inr (consequences_from-marked m (t ∷ []) ts x y (inl e) (Before-second x y ts c) d) ]
        | inr j ↦ elim b [ inl c ↦ absurd (never_twice m base names (t ∷ ts) once x (inl (c.0, consequences_from-in m (t ∷ []) ts x j))) | inr c ↦ inr (consequences_from-closed m (t ∷ []) ts x y (λ z e. never_twice m base names (t ∷ ts) once z (inr e)) c j d) ]
      ]))
      (λ k. rw k (elim b [
        | inl c ↦ absurd (never_twice m base names (t ∷ ts) once x (inl (c.0, consequences-in m base names ts s x (rw k at i))))
        | inr c ↦ consequences-closed ts s (λ u z e. once u z (inr e)) x y (rw k at i) c d
      ]))

  -- a free step of another name that is undone goes from what comes after s
  pub consequences-without : (ts : List (Occurrence N F S)) (t : Occurrence N F S) (s : N) → Once m base names ts → IsMaximal m ts t → m.is_same s t.step ≡ false → consequences m (without m (t ∷ []) ts) s ≡ without m (t ∷ []) (consequences m ts s)
  consequences-without ts t s once free e = at_place m base names (λ l. IsMaximal m l t → consequences m (without m (t ∷ []) l) s ≡ without m (t ∷ []) (consequences m l s)) ts t (λ front back w o f. at front back o f) once free.0 free
    where
      other : (front back : List (Occurrence N F S)) → Once m base names (front ++ t ∷ back) → (y : Occurrence N F S) → In y (front ++ back) → not (is_among m (t ∷ []) y) ≡ true
      other front back o y i = (In-filter (λ y. not (is_among m (t ∷ []) y)) (front ++ t ∷ back) y (subst (In y) (sym (without_one m base names front back t o)) i)).1

      at : (front back : List (Occurrence N F S)) → Once m base names (front ++ t ∷ back) → IsMaximal m (front ++ t ∷ back) t → consequences m (without m (t ∷ []) (front ++ t ∷ back)) s ≡ without m (t ∷ []) (consequences m (front ++ t ∷ back) s)
      at front back o f =
          ap (λ (l : List (Occurrence N F S)). consequences m l s) (without_one m base names front back t o)
          ∙ elim (consequences-cut m base names front back t s e (unneeded_behind front back t f)) [
            | inl c ↦ c.without_it ∙ sym (without_one m base names c.front c.back t (λ x y b. o x y (consequences-ordered m base names (front ++ t ∷ back) s x y (subst (Before x y) (sym c.with_it) b)))) ∙ ap (without m (t ∷ [])) (sym c.with_it)
            | inr c ↦ sym (ap (without m (t ∷ [])) c ∙ filter-all (λ y. not (is_among m (t ∷ []) y)) (consequences m (front ++ back) s) (λ y i. other front back o y (consequences-in m base names (front ++ back) s y i)))
          ]

  pub last_is_free : (ts xs : List (Occurrence N F S)) (s : N) (x : Occurrence N F S) → Once m base names ts → consequences m ts s ≡ xs ++ x ∷ [] → IsMaximal m ts x
  last_is_free ts xs s x once e =
      let mine : In x (consequences m ts s) = subst (In x) (sym e) (In-back x xs (x ∷ []) (inl refl)) in
      (consequences-in m base names ts s x mine, λ y b. by_bool (needs m x y) _ (λ k. absurd (last y b (subst (In y) e (consequences-closed ts s once x y mine b k)))) (λ k. k))
    where
      last : (y : Occurrence N F S) → Before x y ts → In y (xs ++ x ∷ []) → ⊥
      last y b i = elim (In-middle y x xs [] i) [
        | inl f ↦ never_twice m base names ts once x (subst (λ (z : Occurrence N F S). Before x z ts) f b)
        | inr j ↦ never_both x y ts (never_twice m base names ts once) b (consequences-ordered m base names ts s y x (subst (Before y x) (sym e) (Before-across y x xs (x ∷ []) (subst (In y) (append-nil xs) j) (inl refl))))
      ]

  pub only_itself : (ts : List (Occurrence N F S)) (s : Occurrence N F S) → Once m base names ts → IsMaximal m ts s → consequences m ts s.step ≡ s ∷ []
  only_itself ts s once free = at_place m base names (λ l. IsMaximal m l s → consequences m l s.step ≡ s ∷ []) ts s (λ front back w o f. consequences-free m base names front back s o (unneeded_behind front back s f)) once free.0 free

  too_long : (xs : List (Occurrence N F S)) (x y s : Occurrence N F S) → reverse (x ∷ y ∷ xs) ≡ s ∷ [] → ⊥
  too_long xs x y s e = let l = length-reverse (x ∷ y ∷ xs) in let k = ap length e in absurd (omega (arith, l, k))

  backward_allowed : (xs ts : List (Occurrence N F S)) (s : Occurrence N F S) → Once m base names ts → In s ts → consequences m ts s.step ≡ reverse xs → IsBackwardOrder m ts xs
  backward_allowed [] ts s once i e = tt
  backward_allowed (x ∷ []) ts s once i e = (last_is_free ts [] s.step x once e, tt)
  backward_allowed (x ∷ y ∷ xs) ts s once i e =
      let e' : consequences m ts s.step ≡ reverse (y ∷ xs) ++ x ∷ [] = e ∙ reverse-append (x ∷ []) (y ∷ xs) in
      let free = last_is_free ts (reverse (y ∷ xs)) s.step x once e' in
      by_bool (m.is_same s.step x.step) (IsBackwardOrder m ts (x ∷ y ∷ xs))
      (λ k. let f = one_step m base names ts once s x i free.0 k in absurd (too_long xs x y s (sym e ∙ only_itself ts s once (subst (IsMaximal m ts) (sym f) free))))
      (λ k.
      let o : Once m base names (consequences m ts s.step) = λ u z b. once u z (consequences-ordered m base names ts s.step u z b) in
      let rest : consequences m (without m (x ∷ []) ts) s.step ≡ reverse (y ∷ xs) =
      consequences-without ts x s.step once free k
      ∙ ap (without m (x ∷ [])) e'
      ∙ without_one m base names (reverse (y ∷ xs)) [] x (subst (Once m base names) e' o)
      ∙ append-nil (reverse (y ∷ xs)) in
      (free, backward_allowed (y ∷ xs) (without m (x ∷ []) ts) s (Once-filter m base names (λ t. not (is_among m (x ∷ []) t)) ts once) (stays ts x s i (not_backward m base names s.step x.step k)) rest))

  pub after_allowed : (ts : List (Occurrence N F S)) (s : Occurrence N F S) → Once m base names ts → In s ts → IsBackwardOrder m ts (reverse (consequences m ts s.step))
  after_allowed ts s once i = backward_allowed (reverse (consequences m ts s.step)) ts s once i (sym (reverse-reverse (consequences m ts s.step)))

  -- ---- and what they leave

  module _ (law : IsReversible m base) where
    pub undo_free : (v : W) (ts : List (Occurrence N F S)) (t : Occurrence N F S) → IsRun m base ts v → IsMaximal m ts t → IsRun m base (without m (t ∷ []) ts) (undone m v t)
    undo_free v ts t h free =
        at_place m base names (λ l. IsRun m base l v → IsMaximal m l t → IsRun m base (without m (t ∷ []) l) (undone m v t)) ts t
        (λ front back w o r f. subst (λ l. IsRun m base l (undone m v t)) (sym (without_one m base names front back t o)) (free_steps_undo m base law v front back t r (unneeded_behind front back t f)).0)
        (λ x y b. names.once ts v x y h b) free.0 h free

    pub undo_allowed : (v : W) (ts xs : List (Occurrence N F S)) → IsRun m base ts v → IsBackwardOrder m ts xs → IsRun m base (without m xs ts) (undo_each m v xs)
    undo_allowed v ts [] h a = subst (λ l. IsRun m base l v) (sym (without_none ts)) h
    undo_allowed v ts (x ∷ xs) h a = subst (λ l. IsRun m base l (undo_each m (undone m v x) xs)) (without_more x xs ts) (undo_allowed (undone m v x) (without m (x ∷ []) ts) xs (undo_free v ts x h a.0) a.1)

    pub orders_agree : (v : W) (ts xs ys : List (Occurrence N F S)) → IsRun m base ts v → IsBackwardOrder m ts xs → IsBackwardOrder m ts ys → ((x : Occurrence N F S) → In x xs ↔ In x ys) → undo_each m v xs ≡ undo_each m v ys
    orders_agree v ts xs ys h a b same =
        let k = undo_allowed v ts xs h a in
        let l = undo_allowed v ts ys h b in
        let e = without_alike xs ys ts (λ x. (same x).0) (λ x. (same x).1) in
        let l' = rw (← e) at l in
        ap (λ (p : W × List (Occurrence N F S)). p.0) (same_Some _ _ (sym k ∙ l'))

    pub after_undoes : (v : W) (ts : List (Occurrence N F S)) (s : Occurrence N F S) → IsRun m base ts v → In s ts → IsBackwardOrder m ts (reverse (consequences m ts s.step)) × IsRun m base (without m (consequences m ts s.step) ts) (undo_each m v (reverse (consequences m ts s.step)))
    after_undoes v ts s h i =
        let a = after_allowed ts s (λ x y b. names.once ts v x y h b) i in
        (a, subst (λ l. IsRun m base l (undo_each m v (reverse (consequences m ts s.step)))) (without_alike (reverse (consequences m ts s.step)) (consequences m ts s.step) ts (λ x. reverse-In x (consequences m ts s.step)) (λ x. In-reverse x (consequences m ts s.step))) (undo_allowed v ts (reverse (consequences m ts s.step)) h a))

    pub orders_undo : OrdersUndo m base
    orders_undo = record { each = undo_allowed; agree = orders_agree; backward = after_undoes; whole = orders_hold_after }
