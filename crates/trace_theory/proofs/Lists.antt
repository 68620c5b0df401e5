-- Places in lists, and what filters leave.
use Rattle.std.proofs.lemmas.Bool.{or_parts}
use Rattle.std.proofs.Common.{◌≡◌, Bool, true, false, cond, List, [], ◌∷◌, ◌++◌, refl, ap, sym, subst, ◌∙◌, inl, inr}
use Rattle.std.specs.Prelude.{◌⊎◌, filter, reverse}
use Rattle.std.specs.List.{list_any}
use Rattle.std.proofs.lemmas.List.{reverse-append, reverse-reverse}
use Rattle.trace_theory.specs.Traces.{In, Before}

pub by_bool : (b : Bool) (P : Type 0) → (b ≡ true → P) → (b ≡ false → P) → P
by_bool true P if_true if_false = if_true refl
by_bool false P if_true if_false = if_false refl

module _ {A : Type 0} where
  pub In-front : (x : A) (xs ys : List A) → In x xs → In x (xs ++ ys)
  In-front x [] ys h = absurd h
  In-front x (z ∷ xs) ys (inl e) = inl e
  In-front x (z ∷ xs) ys (inr h) = inr (In-front x xs ys h)

  pub In-back : (x : A) (xs ys : List A) → In x ys → In x (xs ++ ys)
  In-back x [] ys h = h
  In-back x (z ∷ xs) ys h = inr (In-back x xs ys h)

  pub In-split : (x : A) (xs ys : List A) → In x (xs ++ ys) → In x xs ⊎ In x ys
  In-split x [] ys h = inr h
  In-split x (z ∷ xs) ys (inl e) = inl (inl e)
  In-split x (z ∷ xs) ys (inr h) = elim (In-split x xs ys h) [ inl k ↦ inl (inr k) | inr k ↦ inr k ]

  -- a member has a place
  pub record Place (x : A) (xs : List A) : Type 0 where
    pub front : List A
    pub back : List A
    pub whole : xs ≡ front ++ x ∷ back

  pub place : (x : A) (xs : List A) → In x xs → Place x xs
  place x [] h = absurd h
  place x (z ∷ xs) (inl e) = record { front = []; back = xs; whole = ap (λ (y : A). y ∷ xs) (sym e) }
  place x (z ∷ xs) (inr h) = let p = place x xs h in record { front = z ∷ p.front; back = p.back; whole = ap (λ (ys : List A). z ∷ ys) p.whole }

  -- with one taken out of the middle, the others stand in the whole
  pub In-others : (x y : A) (front back : List A) → In x (front ++ back) → In x (front ++ y ∷ back)
  In-others x y front back h = elim (In-split x front back h) [ inl k ↦ In-front x front (y ∷ back) k | inr k ↦ In-back x front (y ∷ back) (inr k) ]

  pub In-middle : (x y : A) (front back : List A) → In x (front ++ y ∷ back) → (x ≡ y) ⊎ In x (front ++ back)
  In-middle x y [] back h = h
  In-middle x y (z ∷ front) back (inl e) = inr (inl e)
  In-middle x y (z ∷ front) back (inr h) = elim (In-middle x y front back h) [ inl e ↦ inl e | inr k ↦ inr (inr k) ]

  pub here : (x : A) (front back : List A) → In x (front ++ x ∷ back)
  here x front back = In-back x front (x ∷ back) (inl refl)

  -- ---- before

  pub Before-first : (x y : A) (xs : List A) → Before x y xs → In x xs
  Before-first x y [] h = absurd h
  Before-first x y (z ∷ xs) (inl h) = inl h.0
  Before-first x y (z ∷ xs) (inr h) = inr (Before-first x y xs h)

  pub Before-second : (x y : A) (xs : List A) → Before x y xs → In y xs
  Before-second x y [] h = absurd h
  Before-second x y (z ∷ xs) (inl h) = inr h.1
  Before-second x y (z ∷ xs) (inr h) = inr (Before-second x y xs h)

  pub Before-back : (x y : A) (xs ys : List A) → Before x y ys → Before x y (xs ++ ys)
  Before-back x y [] ys h = h
  Before-back x y (z ∷ xs) ys h = inr (Before-back x y xs ys h)

  pub Before-front : (x y : A) (xs ys : List A) → Before x y xs → Before x y (xs ++ ys)
  Before-front x y [] ys h = absurd h
  Before-front x y (z ∷ xs) ys (inl h) = inl (h.0, In-front y xs ys h.1)
  Before-front x y (z ∷ xs) ys (inr h) = inr (Before-front x y xs ys h)

  pub Before-across : (x y : A) (xs ys : List A) → In x xs → In y ys → Before x y (xs ++ ys)
  Before-across x y [] ys h k = absurd h
  Before-across x y (z ∷ xs) ys (inl e) k = inl (e, In-back y xs ys k)
  Before-across x y (z ∷ xs) ys (inr h) k = inr (Before-across x y xs ys h k)

  pub Before-others : (x y z : A) (front back : List A) → Before x y (front ++ back) → Before x y (front ++ z ∷ back)
  Before-others x y z [] back h = inr h
  Before-others x y z (u ∷ front) back (inl h) = inl (h.0, In-others y z front back h.1)
  Before-others x y z (u ∷ front) back (inr h) = inr (Before-others x y z front back h)

  -- two members are one, or one stands before the other
  pub compared : (x y : A) (xs : List A) → In x xs → In y xs → (x ≡ y) ⊎ (Before x y xs ⊎ Before y x xs)
  compared x y [] h k = absurd h
  compared x y (z ∷ xs) (inl e) (inl f) = inl (e ∙ sym f)
  compared x y (z ∷ xs) (inl e) (inr k) = inr (inl (inl (e, k)))
  compared x y (z ∷ xs) (inr h) (inl f) = inr (inr (inl (f, h)))
  compared x y (z ∷ xs) (inr h) (inr k) = elim (compared x y xs h k) [ inl e ↦ inl e | inr c ↦ elim c [ inl b ↦ inr (inl (inr b)) | inr b ↦ inr (inr (inr b)) ] ]

  -- ---- lists in which nothing stands twice

  pub never_both : (x y : A) (xs : List A) → ((z : A) → Before z z xs → ⊥) → Before x y xs → Before y x xs → ⊥
  never_both x y [] once h k = absurd h
  never_both x y (z ∷ xs) once (inl h) (inl k) = once x (inl (h.0, k.1))
  never_both x y (z ∷ xs) once (inl h) (inr k) = once x (inl (h.0, Before-second y x xs k))
  never_both x y (z ∷ xs) once (inr h) (inl k) = once y (inl (k.0, Before-second x y xs h))
  never_both x y (z ∷ xs) once (inr h) (inr k) = never_both x y xs (λ u b. once u (inr b)) h k

  -- what x stands before, stands behind its place
  pub behind_place : (x y : A) (front back : List A) → ((z : A) → Before z z (front ++ x ∷ back) → ⊥) → Before x y (front ++ x ∷ back) → In y back
  behind_place x y [] back once (inl h) = h.1
  behind_place x y [] back once (inr h) = Before-second x y back h
  behind_place x y (z ∷ front) back once (inl h) = absurd (once x (inl (h.0, here x front back)))
  behind_place x y (z ∷ front) back once (inr h) = behind_place x y front back (λ u b. once u (inr b)) h

  pub Before-behind : (x y : A) (front back : List A) → ((z : A) → Before z z (front ++ back) → ⊥) → In x back → Before x y (front ++ back) → Before x y back
  Before-behind x y [] back once i h = h
  Before-behind x y (z ∷ front) back once i (inl h) = absurd (once x (inl (h.0, In-back x front back i)))
  Before-behind x y (z ∷ front) back once i (inr h) = Before-behind x y front back (λ u b. once u (inr b)) i h

  pub not_among_others : (x : A) (front back : List A) → ((z : A) → Before z z (front ++ x ∷ back) → ⊥) → In x (front ++ back) → ⊥
  not_among_others x [] back once i = once x (inl (refl, i))
  not_among_others x (z ∷ front) back once (inl e) = once x (inl (e, here x front back))
  not_among_others x (z ∷ front) back once (inr i) = not_among_others x front back (λ u b. once u (inr b)) i

  -- ---- filters

  kept_on : (b : Bool) (z : A) (xs : List A) (x : A) → In x (cond b (z ∷ xs) xs) → (x ≡ z) × (b ≡ true) ⊎ In x xs
  kept_on true z xs x (inl e) = inl (e, refl)
  kept_on true z xs x (inr h) = inr h
  kept_on false z xs x h = inr h

  pub In-filter : (p : A → Bool) (xs : List A) (x : A) → In x (filter p xs) → In x xs × (p x ≡ true)
  In-filter p [] x h = absurd h
  In-filter p (z ∷ xs) x h = elim (kept_on (p z) z (filter p xs) x h) [ inl k ↦ (inl k.0, ap p k.0 ∙ k.1) | inr k ↦ (let r = In-filter p xs x k in (inr r.0, r.1)) ]

  pub In-kept : (p : A → Bool) (xs : List A) (x : A) → In x xs → p x ≡ true → In x (filter p xs)
  In-kept p [] x h t = absurd h
  In-kept p (z ∷ xs) x (inl e) t = let k : p z ≡ true = ap p (sym e) ∙ t in rw k (inl e)
  In-kept p (z ∷ xs) x (inr h) t = by_bool (p z) _ (λ k. rw k (inr (In-kept p xs x h t))) (λ k. rw k (In-kept p xs x h t))

  pub Before-kept : (p : A → Bool) (xs : List A) (x y : A) → Before x y xs → p x ≡ true → p y ≡ true → Before x y (filter p xs)
  Before-kept p [] x y h t u = absurd h
  Before-kept p (z ∷ xs) x y (inl h) t u = let k : p z ≡ true = ap p (sym h.0) ∙ t in rw k (inl (h.0, In-kept p xs y h.1 u))
  Before-kept p (z ∷ xs) x y (inr h) t u = by_bool (p z) _ (λ k. rw k (inr (Before-kept p xs x y h t u))) (λ k. rw k (Before-kept p xs x y h t u))

  kept_before : (b : Bool) (z : A) (xs : List A) (x y : A) → Before x y (cond b (z ∷ xs) xs) → (x ≡ z) × In y xs ⊎ Before x y xs
  kept_before true z xs x y h = h
  kept_before false z xs x y h = inr h

  pub Before-filter : (p : A → Bool) (xs : List A) (x y : A) → Before x y (filter p xs) → Before x y xs
  Before-filter p [] x y h = absurd h
  Before-filter p (z ∷ xs) x y h = elim (kept_before (p z) z (filter p xs) x y h) [ inl k ↦ inl (k.0, (In-filter p xs y k.1).0) | inr k ↦ inr (Before-filter p xs x y k) ]

  pub filter-all : (p : A → Bool) (xs : List A) → ((x : A) → In x xs → p x ≡ true) → filter p xs ≡ xs
  filter-all p [] h = refl
  filter-all p (z ∷ xs) h = rw (h z (inl refl), filter-all p xs (λ x i. h x (inr i)))

  pub filter-middle : (p : A → Bool) (front back : List A) (x : A) → ((y : A) → In y (front ++ back) → p y ≡ true) → p x ≡ false → filter p (front ++ x ∷ back) ≡ front ++ back
  filter-middle p [] back x h k = rw k (filter-all p back h)
  filter-middle p (z ∷ front) back x h k = rw (h z (inl refl), filter-middle p front back x (λ y i. h y (inr i)) k)

  pub filter-same : (p q : A → Bool) (xs : List A) → ((x : A) → In x xs → p x ≡ q x) → filter p xs ≡ filter q xs
  filter-same p q [] h = refl
  filter-same p q (z ∷ xs) h = rw (h z (inl refl), filter-same p q xs (λ x i. h x (inr i)))

  pub filter-twice : (p q : A → Bool) (xs : List A) → filter p (filter q xs) ≡ filter (λ x. cond (q x) (p x) false) xs
  filter-twice p q [] = refl
  filter-twice p q (z ∷ xs) = by_bool (q z) _ (λ k. rw (k, filter-twice p q xs)) (λ k. rw (k, filter-twice p q xs))

  -- ---- tests

  pub any_none : (p : A → Bool) (xs : List A) → list_any p xs ≡ false → (x : A) → In x xs → p x ≡ false
  any_none p [] h x i = absurd i
  any_none p (z ∷ xs) h x (inl e) = ap p e ∙ (or_parts (p z) (list_any p xs) h).0
  any_none p (z ∷ xs) h x (inr i) = any_none p xs (or_parts (p z) (list_any p xs) h).1 x i

  pub none_any : (p : A → Bool) (xs : List A) → ((x : A) → In x xs → p x ≡ false) → list_any p xs ≡ false
  none_any p [] h = refl
  none_any p (z ∷ xs) h = rw (h z (inl refl), none_any p xs (λ x i. h x (inr i)))

  pub any_one : (p : A → Bool) (xs : List A) (x : A) → In x xs → p x ≡ true → list_any p xs ≡ true
  any_one p [] x i t = absurd i
  any_one p (z ∷ xs) x (inl e) t = let k : p z ≡ true = ap p (sym e) ∙ t in rw k
  any_one p (z ∷ xs) x (inr i) t = by_bool (p z) _ (λ k. rw k) (λ k. rw (k, any_one p xs x i t))

  pub one_any : (p : A → Bool) (xs : List A) → list_any p xs ≡ true → (x : A) × In x xs × (p x ≡ true)
  one_any p [] h = cc
  one_any p (z ∷ xs) h = by_bool (p z) _ (λ k. (z, inl refl, k)) (λ k. let r = one_any p xs (rw k at h) in (r.0, inr r.1, r.2))

  pub any_alike : (p : A → Bool) (xs ys : List A) → ((x : A) → In x xs → In x ys) → ((x : A) → In x ys → In x xs) → list_any p xs ≡ list_any p ys
  any_alike p xs ys f g =
      by_bool (list_any p xs) _
      (λ k. let r = one_any p xs k in k ∙ sym (any_one p ys r.0 (f r.0 r.1) r.2))
      (λ k. k ∙ sym (none_any p ys (λ x i. any_none p xs k x (g x i))))

  pub In-reverse : (x : A) (xs : List A) → In x xs → In x (reverse xs)
  In-reverse x [] i = absurd i
  In-reverse x (z ∷ xs) (inl e) = subst (In x) (sym (reverse-append (z ∷ []) xs)) (In-back x (reverse xs) (z ∷ []) (inl e))
  In-reverse x (z ∷ xs) (inr i) = subst (In x) (sym (reverse-append (z ∷ []) xs)) (In-front x (reverse xs) (z ∷ []) (In-reverse x xs i))

  pub reverse-In : (x : A) (xs : List A) → In x (reverse xs) → In x xs
  reverse-In x xs i = subst (In x) (reverse-reverse xs) (In-reverse x (reverse xs) i)
