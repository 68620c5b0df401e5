-- What one pass forward marks, and how it changes as steps come and go.
use Rattle.std.proofs.Common.{◌≡◌, Bool, true, false, List, [], ◌∷◌, ◌++◌, refl, ap, sym, subst, ◌∙◌, inl, inr, append_assoc}
use Rattle.std.specs.Prelude.{◌⊎◌}
use Rattle.std.specs.List.{list_any}
use Rattle.std.proofs.lemmas.List.{append-nil}
use Rattle.trace_theory.specs.Traces.{Machine, Occurrence, In, Before, needs, consequences_from}
use Rattle.trace_theory.proofs.Lists.{by_bool, In-front, In-back, In-split, Before-second, any_one, none_any, one_any}

any_skip : {A : Type 0} (p : A → Bool) (xs ys : List A) (x : A) → p x ≡ false → list_any p (xs ++ x ∷ ys) ≡ list_any p (xs ++ ys)
any_skip p [] ys x h = rw h
any_skip p (z ∷ xs) ys x h = rw (any_skip p xs ys x h)

-- one list has an element more than another, or they are one
pub record OneMore {A : Type 0} (x : A) (more fewer : List A) : Type 0 where
  pub front : List A
  pub back : List A
  pub with_it : more ≡ front ++ x ∷ back
  pub without_it : fewer ≡ front ++ back

pub one_more : {A : Type 0} (z x : A) (more fewer : List A) → OneMore x more fewer ⊎ (more ≡ fewer) → OneMore x (z ∷ more) (z ∷ fewer) ⊎ (z ∷ more ≡ z ∷ fewer)
one_more z x more fewer (inl c) = inl record { front = z ∷ c.front; back = c.back; with_it = ap (λ (xs : List _). z ∷ xs) c.with_it; without_it = ap (λ (xs : List _). z ∷ xs) c.without_it }
one_more z x more fewer (inr e) = inr (ap (λ (xs : List _). z ∷ xs) e)

module _ {W N F S : Type 0} (m : Machine W N F S) where
  pub consequences_from-in : (marked ts : List (Occurrence N F S)) (y : Occurrence N F S) → In y (consequences_from m marked ts) → In y ts
  consequences_from-in marked [] y h = absurd h
  consequences_from-in marked (t ∷ ts) y h =
      by_bool (list_any (λ x. needs m x t) marked) (In y (t ∷ ts))
      (λ k. elim (rw k at h) as (λ _. In y (t ∷ ts)) [ inl e ↦ inl e | inr i ↦ inr (consequences_from-in (marked ++ t ∷ []) ts y i) ])
      (λ k. inr (consequences_from-in marked ts y (rw k at h)))

  pub consequences_from-ordered : (marked ts : List (Occurrence N F S)) (x y : Occurrence N F S) → Before x y (consequences_from m marked ts) → Before x y ts
  consequences_from-ordered marked [] x y h = absurd h
  consequences_from-ordered marked (t ∷ ts) x y h =
      by_bool (list_any (λ x. needs m x t) marked) (Before x y (t ∷ ts))
      (λ k. elim (rw k at h) as (λ _. Before x y (t ∷ ts)) [ inl e ↦ inl (e.0, consequences_from-in (marked ++ t ∷ []) ts y e.1) | inr i ↦ inr (consequences_from-ordered (marked ++ t ∷ []) ts x y i) ])
      (λ k. inr (consequences_from-ordered marked ts x y (rw k at h)))

  pub consequences_from-marked : (marked ts : List (Occurrence N F S)) (x y : Occurrence N F S) → In x marked → In y ts → needs m x y ≡ true → In y (consequences_from m marked ts)
  consequences_from-marked marked [] x y i h d = absurd h
  consequences_from-marked marked (t ∷ ts) x y i (inl e) d =
      let k = any_one (λ (z : Occurrence N F S). needs m z t) marked x i (ap (λ (z : Occurrence N F S). needs m x z) (sym e) ∙ d) in
      rw k (inl e)
  consequences_from-marked marked (t ∷ ts) x y i (inr h) d =
      by_bool (list_any (λ x. needs m x t) marked) _
      (λ k. rw k (inr (consequences_from-marked (marked ++ t ∷ []) ts x y (In-front x marked (t ∷ []) i) h d)))
      (λ k. rw k (consequences_from-marked marked ts x y i h d))

  pub consequences_from-closed : (marked ts : List (Occurrence N F S)) (x y : Occurrence N F S) → ((z : Occurrence N F S) → Before z z ts → ⊥) → Before x y ts → In x (consequences_from m marked ts) → needs m x y ≡ true → In y (consequences_from m marked ts)
  consequences_from-closed marked [] x y once b i d = absurd b
  consequences_from-closed marked (t ∷ ts) x y once (inl b) i d =
      by_bool (list_any (λ x. needs m x t) marked) _
      (λ k. rw k (inr (consequences_from-marked (marked ++ t ∷ []) ts x y (In-back x marked (t ∷ []) (inl b.0)) b.1 d)))
      (λ k. absurd (once x (inl (b.0, consequences_from-in marked ts x (rw k at i)))))
  consequences_from-closed marked (t ∷ ts) x y once (inr b) i d =
      by_bool (list_any (λ x. needs m x t) marked) _
      (λ k. rw k (inr (elim (rw k at i) as (λ _. In y (consequences_from m (marked ++ t ∷ []) ts)) [
        | inl e ↦ consequences_from-marked (marked ++ t ∷ []) ts x y (In-back x marked (t ∷ []) (inl e)) (Before-second x y ts b) d
        | inr j ↦ consequences_from-closed (marked ++ t ∷ []) ts x y (λ z c. once z (inr c)) b j d
      ])))
      (λ k. rw k (consequences_from-closed marked ts x y (λ z c. once z (inr c)) b (rw k at i) d))

  pub consequences_from-least : (other marked ts : List (Occurrence N F S)) → ((x : Occurrence N F S) → In x marked → In x other) → ((x y : Occurrence N F S) → (In x marked × In y ts) ⊎ Before x y ts → In x other → needs m x y ≡ true → In y other) → (y : Occurrence N F S) → In y (consequences_from m marked ts) → In y other
  consequences_from-least other marked [] h c y i = absurd i
  consequences_from-least other marked (t ∷ ts) h c y i =
      by_bool (list_any (λ x. needs m x t) marked) (In y other)
      (λ k. let t_in : In t other = new k in elim (rw k at i) as (λ _. In y other) [
        | inl e ↦ subst (λ (z : Occurrence N F S). In z other) (sym e) t_in
        | inr j ↦ consequences_from-least other (marked ++ t ∷ []) ts (λ x a. elim (In-split x marked (t ∷ []) a) [ inl b ↦ h x b | inr b ↦ elim b [ inl e ↦ subst (λ (z : Occurrence N F S). In z other) (sym e) t_in | inr n ↦ absurd n ] ]) (λ x z a. c x z (longer x z a)) y j
      ])
      (λ k. consequences_from-least other marked ts h (λ x z a. c x z (elim a [ inl b ↦ inl (b.0, inr b.1) | inr b ↦ inr (inr b) ])) y (rw k at i))
    where
      new : list_any (λ x. needs m x t) marked ≡ true → In t other
      new k = let r = one_any (λ (x : Occurrence N F S). needs m x t) marked k in c r.0 t (inl (r.1, inl refl)) (h r.0 r.1) r.2

      longer : (x z : Occurrence N F S) → (In x (marked ++ t ∷ []) × In z ts) ⊎ Before x z ts → (In x marked × In z (t ∷ ts)) ⊎ Before x z (t ∷ ts)
      longer x z (inl a) = elim (In-split x marked (t ∷ []) a.0) [ inl b ↦ inl (b, inr a.1) | inr b ↦ elim b [ inl e ↦ inr (inl (e, a.1)) | inr n ↦ absurd n ] ]
      longer x z (inr a) = inr (inr a)

  pub consequences_from-more : (marked ts : List (Occurrence N F S)) (t : Occurrence N F S) → ((x : Occurrence N F S) → In x marked → needs m x t ≡ false) → ((x : Occurrence N F S) → In x (consequences_from m marked ts) → needs m x t ≡ false) → consequences_from m marked (ts ++ t ∷ []) ≡ consequences_from m marked ts
  consequences_from-more marked [] t h k = let e = none_any (λ (x : Occurrence N F S). needs m x t) marked h in rw e
  consequences_from-more marked (z ∷ ts) t h k =
      by_bool (list_any (λ x. needs m x z) marked) _
      (λ b. let k' = rw b at k in rw b (ap (λ (xs : List (Occurrence N F S)). z ∷ xs) (consequences_from-more (marked ++ z ∷ []) ts t (λ x i. elim (In-split x marked (z ∷ []) i) [ inl j ↦ h x j | inr j ↦ elim j [ inl e ↦ k' x (inl e) | inr n ↦ absurd n ] ]) (λ x i. k' x (inr i)))))
      (λ b. let k' = rw b at k in rw b (consequences_from-more marked ts t h k'))

  consequences_from-skip : (xs ys back : List (Occurrence N F S)) (t : Occurrence N F S) → ((y : Occurrence N F S) → In y back → needs m t y ≡ false) → consequences_from m (xs ++ t ∷ ys) back ≡ consequences_from m (xs ++ ys) back
  consequences_from-skip xs ys [] t h = refl
  consequences_from-skip xs ys (z ∷ back) t h =
      let e = any_skip (λ (x : Occurrence N F S). needs m x z) xs ys t (h z (inl refl)) in
      by_bool (list_any (λ x. needs m x z) (xs ++ ys)) _
      (λ k. rw (e, k) (ap (λ (r : List (Occurrence N F S)). z ∷ r) (
      ap (λ (r : List (Occurrence N F S)). consequences_from m r back) (append_assoc xs (t ∷ ys) (z ∷ []))
      ∙ consequences_from-skip xs (ys ++ z ∷ []) back t (λ y i. h y (inr i))
      ∙ ap (λ (r : List (Occurrence N F S)). consequences_from m r back) (sym (append_assoc xs ys (z ∷ [])))
      )))
      (λ k. rw (e, k) (consequences_from-skip xs ys back t (λ y i. h y (inr i))))

  -- a free step taken out of the middle goes from what is marked, and nothing else does
  pub consequences_from-cut : (marked front back : List (Occurrence N F S)) (t : Occurrence N F S) → ((y : Occurrence N F S) → In y back → needs m t y ≡ false) → OneMore t (consequences_from m marked (front ++ t ∷ back)) (consequences_from m marked (front ++ back)) ⊎ (consequences_from m marked (front ++ t ∷ back) ≡ consequences_from m marked (front ++ back))
  consequences_from-cut marked [] back t h =
      by_bool (list_any (λ x. needs m x t) marked) _
      (λ k. rw k (inl record { front = []; back = consequences_from m (marked ++ t ∷ []) back; with_it = refl; without_it = sym (consequences_from-skip marked [] back t h ∙ ap (λ (r : List (Occurrence N F S)). consequences_from m r back) (append-nil marked)) }))
      (λ k. rw k (inr refl))
  consequences_from-cut marked (z ∷ front) back t h =
      by_bool (list_any (λ x. needs m x z) marked) _
      (λ k. rw k (one_more z t _ _ (consequences_from-cut (marked ++ z ∷ []) front back t h)))
      (λ k. rw k (consequences_from-cut marked front back t h))

  pub consequences_from-none : (marked ts : List (Occurrence N F S)) → ((x y : Occurrence N F S) → In x marked → In y ts → needs m x y ≡ false) → consequences_from m marked ts ≡ []
  consequences_from-none marked [] h = refl
  consequences_from-none marked (t ∷ ts) h = let e = none_any (λ (x : Occurrence N F S). needs m x t) marked (λ x i. h x t i (inl refl)) in rw e (consequences_from-none marked ts (λ x y i j. h x y i (inr j)))
