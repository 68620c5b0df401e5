-- A step is a consequence of another just where it is that step, or a consequence of one that depends directly on it.
use Rattle.std.proofs.Common.{◌≡◌, ◌<◌, ◌≤◌, ◌+◌, ◌==◌, arith, ℕ, zero, suc, Bool, true, false, cond, List, [], ◌∷◌, ◌++◌, drop, reverse, Some, refl, ap, sym, subst, ◌∙◌, inl, inr, ◌⊎◌}
use Rattle.std.specs.Prelude.{slice_get}
use Rattle.std.specs.List.{list_any}
use Rattle.std.proofs.lemmas.Bool.{cases_lt, eqb-true, eq-eqb}
use Rattle.std.proofs.lemmas.List.{append_assoc}
use Rattle.std.proofs.lemmas.Option.{same_Some}
use Rattle.std.proofs.lemmas.List.Folds.{list_any-append}
use Rattle.std.proofs.lemmas.List.Sorted.{IsPermutation-reverse, list_any-IsPermutation}
use Rattle.saved_steps.specs.declared.fact.Fact.{Fact}
use Rattle.depends.specs.Plans.{depends_on, depends_on_some, consequences_behind, consequences_at, plan}
use Rattle.depends.proofs.Threads.{either, or_left, or_right}
use Rattle.step_graph.specs.Causes.{is_in, is_in_plan}

-- ---- places among some

pub in_both : (b : ℕ) (xs ys : List ℕ) → is_in b (xs ++ ys) ≡ true → (is_in b xs ≡ true) ⊎ (is_in b ys ≡ true)
in_both b xs ys h = either (is_in b xs) (is_in b ys) (sym (list_any-append (λ p. p == b) xs ys) ∙ h)

pub in_left : (b : ℕ) (xs ys : List ℕ) → is_in b xs ≡ true → is_in b (xs ++ ys) ≡ true
in_left b xs ys h = list_any-append (λ p. p == b) xs ys ∙ or_left (is_in b xs) (is_in b ys) h

pub in_right : (b : ℕ) (xs ys : List ℕ) → is_in b ys ≡ true → is_in b (xs ++ ys) ≡ true
in_right b xs ys h = list_any-append (λ p. p == b) xs ys ∙ or_right (is_in b xs) (is_in b ys) h

pub in_one : (b x : ℕ) → is_in b (x ∷ []) ≡ true → x ≡ b
in_one b x h = elim (either (x == b) false h) [ inl e ↦ eqb-true x b e | inr e ↦ absurd (cc) ]

pub in_itself : (b : ℕ) (xs : List ℕ) → is_in b (b ∷ xs) ≡ true
in_itself b xs = or_left (b == b) (is_in b xs) (eq-eqb b b refl)

pub some_in : (p : ℕ → Bool) (xs : List ℕ) → list_any p xs ≡ true → (x : ℕ) × (is_in x xs ≡ true) × (p x ≡ true)
some_in p [] h = absurd (cc)
some_in p (x ∷ xs) h = elim (either (p x) (list_any p xs) h) [
  | inl e ↦ (x, in_itself x xs, e)
  | inr e ↦ let k = some_in p xs e in (k.0, or_right (x == k.0) (is_in k.0 xs) k.1, k.2)
]

pub any_of : (p : ℕ → Bool) (xs : List ℕ) (x : ℕ) → is_in x xs ≡ true → p x ≡ true → list_any p xs ≡ true
any_of p [] x h e = absurd (cc)
any_of p (y ∷ ys) x h e = elim (either (y == x) (is_in x ys) h) [
  | inl k ↦ or_left (p y) (list_any p ys) (ap p (eqb-true y x k) ∙ e)
  | inr k ↦ or_right (p y) (list_any p ys) (any_of p ys x k e)
]

-- ---- rests of a list

rest_from : {A : Type 0} (xs : List A) (i : ℕ) (y : A) (ys : List A) → y ∷ ys ≡ drop i xs → (slice_get xs i ≡ Some y) × (ys ≡ drop (suc i) xs)
rest_from [] zero y ys e = absurd (cc)
rest_from [] (suc i) y ys e = absurd (cc)
rest_from (x ∷ xs) zero y ys e = (ap (λ zs. slice_get zs 0) (sym e), ap (drop 1) e)
rest_from (x ∷ xs) (suc i) y ys e = rest_from xs i y ys e

rest_of : {A : Type 0} (xs : List A) (i : ℕ) (y : A) (ys : List A) → y ∷ ys ≡ drop i xs → (slice_get xs i ≡ Some y) × (ys ≡ drop (i + 1) xs)
rest_of xs i y ys e = let r = rest_from xs i y ys e in (r.0, r.1 ∙ ap (λ k. drop k xs) (let w : suc i ≡ i + 1 = omega arith in w))

none_beyond : {A : Type 0} (xs : List A) (i k : ℕ) (x : A) → [] ≡ drop i xs → slice_get xs k ≡ Some x → k < i
none_beyond [] i k x e is = cc
none_beyond (y ∷ ys) zero k x e is = absurd (cc)
none_beyond (y ∷ ys) (suc i) zero x e is = omega arith
none_beyond (y ∷ ys) (suc i) (suc k) x e is = let l = none_beyond ys i k x e is in omega (arith, l)

module _ (facts : List Fact) where
  -- the step at the second place depends directly on that at the first
  abbrev pub Links : ℕ → ℕ → Type 0
  Links a b = (g : Fact) × (slice_get facts b ≡ Some g) × (depends_on (slice_get facts a) g ≡ true)

  abbrev pub IsClosed : (ℕ → Type 0) → Type 0
  IsClosed S = (x y : ℕ) → S x → x < y → Links x y → S y

  -- ---- what is marked lies in each closed set that has the first marks

  abbrev AreBelow : (ℕ → Type 0) → List ℕ → ℕ → Type 0
  AreBelow S ms i = (m : ℕ) → is_in m ms ≡ true → S m × (m < i)

  abbrev after : Bool → List ℕ → ℕ → List Fact → List ℕ
  after c ms i fs = cond c (i ∷ consequences_behind facts (ms ++ i ∷ []) (i + 1) fs) (consequences_behind facts ms (i + 1) fs)

  least_from : (S : ℕ → Type 0) → IsClosed S → (ms : List ℕ) (i : ℕ) (fs : List Fact) → fs ≡ drop i facts → AreBelow S ms i → (b : ℕ) → is_in b (consequences_behind facts ms i fs) ≡ true → S b
  least_from S closed ms i [] rest below b h = absurd (cc)
  least_from S closed ms i (f ∷ fs) rest below b h =
      by (depends_on_some facts ms f) refl
      (λ e x. least_from S closed (ms ++ i ∷ []) (i + 1) fs at_i.1 (more e) b x)
      (λ x. least_from S closed ms (i + 1) fs at_i.1 same b x)
    where
      at_i : (slice_get facts i ≡ Some f) × (fs ≡ drop (i + 1) facts)
      at_i = rest_of facts i f fs rest

      marked : depends_on_some facts ms f ≡ true → S i
      marked e =
          let k = some_in (λ place. depends_on (slice_get facts place) f) ms e in
          let m = below k.0 k.1 in
          closed k.0 i m.0 m.1 (f, at_i.0, k.2)

      more : depends_on_some facts ms f ≡ true → AreBelow S (ms ++ i ∷ []) (i + 1)
      more e m k = elim (in_both m ms (i ∷ []) k) [
        | inl x ↦ let y = below m x in (y.0, let l = y.1 in omega (arith, l))
        | inr x ↦ let s = in_one m i x in (subst S s (marked e), omega (arith, s))
      ]

      same : AreBelow S ms (i + 1)
      same m k = let y = below m k in (y.0, let l = y.1 in omega (arith, l))

      by : (c : Bool) → depends_on_some facts ms f ≡ c → (depends_on_some facts ms f ≡ true → is_in b (consequences_behind facts (ms ++ i ∷ []) (i + 1) fs) ≡ true → S b)
          → (is_in b (consequences_behind facts ms (i + 1) fs) ≡ true → S b) → S b
      by true e some none = elim (either (i == b) (is_in b (consequences_behind facts (ms ++ i ∷ []) (i + 1) fs)) (sym (ap (λ c. is_in b (after c ms i fs)) e) ∙ h)) [
        | inl x ↦ subst S (eqb-true i b x) (marked e)
        | inr x ↦ some e x
      ]
      by false e some none = none (sym (ap (λ c. is_in b (after c ms i fs)) e) ∙ h)

  -- ---- the marks are a closed set

  abbrev AreClosedBelow : List ℕ → ℕ → Type 0
  AreClosedBelow ms i = (x y : ℕ) → is_in x ms ≡ true → x < y → y < i → Links x y → is_in y ms ≡ true

  closed_from : (ms : List ℕ) (i : ℕ) (fs : List Fact) → fs ≡ drop i facts → ((m : ℕ) → is_in m ms ≡ true → m < i) → AreClosedBelow ms i → IsClosed (λ x. is_in x (ms ++ consequences_behind facts ms i fs) ≡ true)
  closed_from ms i [] rest below closed = λ x y h l link.
      in_left y ms [] (closed x y (elim (in_both x ms [] h) [ inl e ↦ e | inr e ↦ absurd (cc) ]) l (none_beyond facts i y link.0 rest link.1) link)
  closed_from ms i (f ∷ fs) rest below closed =
      by (depends_on_some facts ms f) refl
      (closed_from (ms ++ i ∷ []) (i + 1) fs at_i.1 below_more closed_more)
      (λ e. closed_from ms (i + 1) fs at_i.1 (λ m k. let l = below m k in omega (arith, l)) (closed_same e))
    where
      at_i : (slice_get facts i ≡ Some f) × (fs ≡ drop (i + 1) facts)
      at_i = rest_of facts i f fs rest

      here : (x y : ℕ) → is_in x ms ≡ true → y ≡ i → Links x y → depends_on_some facts ms f ≡ true
      here x y h e link =
          let same : link.0 ≡ f = same_Some link.0 f (sym link.1 ∙ ap (slice_get facts) e ∙ at_i.0) in
          any_of (λ place. depends_on (slice_get facts place) f) ms x h (ap (depends_on (slice_get facts x)) (sym same) ∙ link.2)

      below_more : (m : ℕ) → is_in m (ms ++ i ∷ []) ≡ true → m < i + 1
      below_more m k = elim (in_both m ms (i ∷ []) k) [ inl x ↦ let l = below m x in omega (arith, l) | inr x ↦ let s = in_one m i x in omega (arith, s) ]

      closed_more : AreClosedBelow (ms ++ i ∷ []) (i + 1)
      closed_more x y h l b link = elim (cases_lt y i) [
        | inl w ↦ in_left y ms (i ∷ []) (closed x y (elim (in_both x ms (i ∷ []) h) [ inl e ↦ e | inr e ↦ absurd (let s = in_one x i e in omega (arith, s, l, w)) ]) l w link)
        | inr w ↦ in_right y ms (i ∷ []) (let s : y ≡ i = omega (arith, w, b) in subst (λ k. is_in y (k ∷ []) ≡ true) s (in_itself y []))
      ]

      closed_same : depends_on_some facts ms f ≡ false → AreClosedBelow ms (i + 1)
      closed_same e x y h l b link = elim (cases_lt y i) [
        | inl w ↦ closed x y h l w link
        | inr w ↦ absurd (let t = here x y h (omega (arith, w, b)) link in let z : true ≡ false = sym t ∙ e in cc)
      ]

      shifted : (xs ys : List ℕ) (k : ℕ) → (xs ++ k ∷ []) ++ ys ≡ xs ++ k ∷ ys
      shifted xs ys k = append_assoc xs (k ∷ []) ys

      by : (c : Bool) → depends_on_some facts ms f ≡ c → IsClosed (λ x. is_in x ((ms ++ i ∷ []) ++ consequences_behind facts (ms ++ i ∷ []) (i + 1) fs) ≡ true)
          → (depends_on_some facts ms f ≡ false → IsClosed (λ x. is_in x (ms ++ consequences_behind facts ms (i + 1) fs) ≡ true))
          → IsClosed (λ x. is_in x (ms ++ after (depends_on_some facts ms f) ms i fs) ≡ true)
      by true e some none =
          subst (λ c. IsClosed (λ x. is_in x (ms ++ after c ms i fs) ≡ true)) (sym e)
          (subst (λ (zs : List ℕ). IsClosed (λ x. is_in x zs ≡ true)) (shifted ms (consequences_behind facts (ms ++ i ∷ []) (i + 1) fs) i) some)
      by false e some none = subst (λ c. IsClosed (λ x. is_in x (ms ++ after c ms i fs) ≡ true)) (sym e) (none e)

  -- ---- plans

  planned : (of at : ℕ) → is_in at (plan facts of) ≡ is_in at (consequences_at facts of)
  planned of at = sym (list_any-IsPermutation (λ p. p == at) (consequences_at facts of) (reverse (consequences_at facts of)) (IsPermutation-reverse (consequences_at facts of)))

  pub in_own : (a : ℕ) → is_in_plan facts a a ≡ true
  in_own a = planned a a ∙ in_itself a (consequences_behind facts (a ∷ []) (a + 1) (drop (a + 1) facts))

  plan_closed : (a : ℕ) → IsClosed (λ x. is_in_plan facts a x ≡ true)
  plan_closed a x y h l link =
      planned a y
      ∙ closed_from (a ∷ []) (a + 1) (drop (a + 1) facts) refl (λ m k. let s = in_one m a k in omega (arith, s))
      (λ x y h l b link. absurd (let s = in_one x a h in omega (arith, s, l, b)))
      x y (sym (planned a x) ∙ h) l link

  plan_least : (S : ℕ → Type 0) → IsClosed S → (a : ℕ) → S a → (b : ℕ) → is_in_plan facts a b ≡ true → S b
  plan_least S closed a s b h = elim (either (a == b) (is_in b (consequences_behind facts (a ∷ []) (a + 1) (drop (a + 1) facts))) (sym (planned a b) ∙ h)) [
    | inl e ↦ subst S (eqb-true a b e) s
    | inr e ↦ least_from S closed (a ∷ []) (a + 1) (drop (a + 1) facts) refl (λ m k. let q = in_one m a k in (subst S q s, omega (arith, q))) b e
  ]

  -- what follows from a direct dependent follows from the step
  pub through : (a m b : ℕ) → a < m → Links a m → is_in_plan facts m b ≡ true → is_in_plan facts a b ≡ true
  through a m b l link h = plan_least (λ x. is_in_plan facts a x ≡ true) (plan_closed a) m (plan_closed a a m (in_own a) l link) b h

  -- and what follows from a step and isn't that step follows from a direct dependent
  pub record IsThrough (a b : ℕ) : Type 0 where
    pub middle : ℕ
    pub later : a < middle
    pub link : Links a middle
    pub follows : is_in_plan facts middle b ≡ true

  pub first_link : (a b : ℕ) → is_in_plan facts a b ≡ true → (a ≡ b) ⊎ IsThrough a b
  first_link a b h = plan_least (λ x. (a ≡ x) ⊎ IsThrough a x) closed a (inl refl) b h
    where
      closed : IsClosed (λ x. (a ≡ x) ⊎ IsThrough a x)
      closed x y (inl e) l link = inr (record {
        middle = y;
        later = omega (arith, e, l);
        link = subst (λ k. Links k y) (sym e) link;
        follows = in_own y;
      })
      closed x y (inr t) l link = inr (record { middle = t.middle; later = t.later; link = t.link; follows = plan_closed t.middle x y t.follows l link })

  -- a step comes at or before what follows from it
  pub not_before : (a b : ℕ) → is_in_plan facts a b ≡ true → a ≤ b
  not_before a b h = plan_least (λ x. a ≤ x) (λ x y s l link. omega (arith, s, l)) a (omega arith) b h
