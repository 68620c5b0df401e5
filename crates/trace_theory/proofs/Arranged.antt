-- Linearizations of a run.
use Rattle.std.proofs.Common.{◌≡◌, ◌+◌, true, false, List, [], ◌∷◌, ◌++◌, length, length-append, arith, refl, ap, ap₂, sym, subst, ◌∙◌, inl, inr, Some}
use Rattle.trace_theory.specs.Traces.{Machine, Occurrence, In, Before, names_of, run, needs, IsLinearization, IsReversible, HasNames, LinearizationsAgree}
use Rattle.trace_theory.specs.Footprints.{IsReached}
use Rattle.trace_theory.proofs.Lists.{by_bool, In-others, In-middle, here, Before-first, Before-second, Before-across, Before-others, not_among_others}
use Rattle.trace_theory.proofs.Runs.{Runs, from_run, to_run, reached_next, reached_here}
use Rattle.trace_theory.proofs.Commuting.{to_front}
use Rattle.trace_theory.proofs.Least.{Once, never_twice, one_step, Once-others}

module _ {W N F S : Type 0} (m : Machine W N F S) (base : W) (names : HasNames m base) where
  -- a run of these names from w, of the same steps
  pub record Rearranged (w v : W) (ts : List (Occurrence N F S)) (ns : List N) : Type 0 where
    pub steps : List (Occurrence N F S)
    pub runs : Runs m w steps v
    pub named : names_of m steps ≡ ns
    pub of_them : (t : Occurrence N F S) → In t steps → In t ts
    pub all : (t : Occurrence N F S) → In t ts → In t steps

  -- the place of a name
  pub record Named (n : N) (ts : List (Occurrence N F S)) : Type 0 where
    pub front : List (Occurrence N F S)
    pub back : List (Occurrence N F S)
    pub step : Occurrence N F S
    pub whole : ts ≡ front ++ step ∷ back
    pub named : step.step ≡ n

  pub named_place : (n : N) (ts : List (Occurrence N F S)) → In n (names_of m ts) → Named n ts
  named_place n [] i = absurd i
  named_place n (t ∷ ts) (inl e) = record { front = []; back = ts; step = t; whole = refl; named = sym e }
  named_place n (t ∷ ts) (inr i) = let p = named_place n ts i in record { front = t ∷ p.front; back = p.back; step = p.step; whole = ap (λ (l : List (Occurrence N F S)). t ∷ l) p.whole; named = p.named }

  pub In-names : (t : Occurrence N F S) (ts : List (Occurrence N F S)) → In t ts → In t.step (names_of m ts)
  In-names t [] i = absurd i
  In-names t (z ∷ ts) (inl e) = inl (ap (λ (x : Occurrence N F S). x.step) e)
  In-names t (z ∷ ts) (inr i) = inr (In-names t ts i)

  names-others : (n : N) (front back : List (Occurrence N F S)) (t : Occurrence N F S) → In n (names_of m (front ++ t ∷ back)) → (n ≡ t.step → ⊥) → In n (names_of m (front ++ back))
  names-others n [] back t (inl e) no_other = absurd (no_other e)
  names-others n [] back t (inr i) no_other = i
  names-others n (z ∷ front) back t (inl e) no_other = inl e
  names-others n (z ∷ front) back t (inr i) no_other = inr (names-others n front back t i no_other)

  pub length-middle : (front back : List (Occurrence N F S)) (t : Occurrence N F S) → length (front ++ t ∷ back) ≡ length (front ++ back) + 1
  length-middle front back t = omega (arith, length-append front (t ∷ back), length-append front back)

  -- the first name of a linearization moves to the front
  moved : (ns : List N) (n : N) (front back : List (Occurrence N F S)) (t : Occurrence N F S) → t.step ≡ n → Once m base names (front ++ t ∷ back) → IsLinearization m (front ++ t ∷ back) (n ∷ ns)
      → ((y : Occurrence N F S) → In y front → needs m y t ≡ false) × IsLinearization m (front ++ back) ns
  moved ns n front back t e once a = (
    λ y i. by_bool (needs m y t) _ (λ k. absurd (clash y (a.in_order y t (Before-across y t front (t ∷ back) i (inl refl)) k))) (λ k. k),
    record {
      once = λ x y b. a.once x y (inr b);
      as_many = omega (arith, a.as_many, length-middle front back t);
      the_same = λ x i. names-others x front back t (a.the_same x (inr i)) (λ f. twice (subst (λ (y : N). In y ns) (f ∙ e) i));
      in_order = λ x y b d. elim (a.in_order x y (Before-others x y t front back b) d) [ inl c ↦ absurd (first x (Before-first x y (front ++ back) b) c.0) | inr c ↦ c ];
    },
  )
    where
      twice : In n ns → ⊥
      twice i = let f = a.once n n (inl (refl, i)) in let g = names.itself n in cc

      clash : (y : Occurrence N F S) → Before y.step t.step (n ∷ ns) → ⊥
      clash y (inl b) = twice (subst (λ (x : N). In x ns) e b.1)
      clash y (inr b) = twice (subst (λ (x : N). In x ns) e (Before-second y.step t.step ns b))

      first : (x : Occurrence N F S) → In x (front ++ back) → x.step ≡ n → ⊥
      first x i f = alone x i (f ∙ sym e)
        where
          alone : (x : Occurrence N F S) → In x (front ++ back) → x.step ≡ t.step → ⊥
          alone x i f =
              let same : m.is_same t.step x.step ≡ true = ap (λ (y : N). m.is_same t.step y) f ∙ names.itself t.step in
              let g = one_step m base names (front ++ t ∷ back) once t x (here t front back) (In-others x t front back i) same in
              not_among_others t front back (never_twice m base names (front ++ t ∷ back) once) (subst (λ (z : Occurrence N F S). In z (front ++ back)) (sym g) i)

  no_more : (ts : List (Occurrence N F S)) → 0 ≡ length ts → ts ≡ []
  no_more [] e = refl
  no_more (t ∷ ts) e = absurd (omega arith)

  module _ (law : IsReversible m base) where
    rearranged : (ns : List N) (ts : List (Occurrence N F S)) (w v : W) → IsReached m base w → Once m base names ts → Runs m w ts v → IsLinearization m ts ns → Rearranged w v ts ns
    rearranged [] ts w v r once h a =
        let e = no_more ts a.as_many in
        record { steps = []; runs = rw e at h; named = refl; of_them = λ t i. absurd i; all = λ t i. subst (In t) e i }
    rearranged (n ∷ ns) ts w v r once h a =
        let p = named_place n ts (a.the_same n (inl refl)) in
        let o = subst (Once m base names) p.whole once in
        let k = moved ns n p.front p.back p.step p.named o (subst (λ l. IsLinearization m l (n ∷ ns)) p.whole a) in
        let f = to_front m base law p.step p.front p.back w v r k.0 (subst (λ l. Runs m w l v) p.whole h) in
        let rest = rearranged ns (p.front ++ p.back) f.0 v (reached_next m base w f.0 p.step r f.1) (Once-others m base names p.front p.back p.step o) f.2 k.1 in
        record {
          steps = p.step ∷ rest.steps;
          runs = (f.0, f.1, rest.runs);
          named = ap₂ (λ (x : N) (xs : List N). x ∷ xs) p.named rest.named;
          of_them = λ t i. subst (In t) (sym p.whole) (elim i [ inl e ↦ subst (λ (z : Occurrence N F S). In z (p.front ++ p.step ∷ p.back)) (sym e) (here p.step p.front p.back) | inr j ↦ In-others t p.step p.front p.back (rest.of_them t j) ]);
          all = λ t i. elim (In-middle t p.step p.front p.back (subst (In t) p.whole i)) [ inl e ↦ inl e | inr j ↦ inr (rest.all t j) ];
        }

    pub linearizations_agree : LinearizationsAgree m base
    linearizations_agree v ts ns h a =
        let k = rearranged ns ts base v (reached_here m base) (λ x y b. names.once ts v x y h b) (from_run m ts base v h) a in
        (k.steps, subst (λ l. run m base l ≡ Some (v, k.steps)) k.named (to_run m k.steps base v k.runs), λ t. (k.of_them t, k.all t))
