-- The first places at which a record passes a test, taken together; and searches through lists.
use Rattle.std.proofs.Common.{◌≡◌, ◌≤◌, ◌+◌, arith, ℕ, zero, suc, Bool, true, false, cond, List, [], ◌∷◌, drop, map, Option, None, Some, refl, ap, sym, subst, ◌∙◌, inl, inr, ◌⊎◌}
use Rattle.std.specs.Prelude.{slice_get, position, option_map, option_and_then}
use Rattle.std.specs.List.{position_from}
use Rattle.std.proofs.lemmas.Bool.{cases_lt, lt-ltb, le-ltb}
use Rattle.std.proofs.lemmas.Iterator.Adapters.{position_from-zero}
use Rattle.std.proofs.lemmas.Option.{same_Some, slice_get-map}
use Rattle.saved_steps.specs.declared.fact.Fact.{Fact}
use Rattle.saved_steps.specs.declared.record.StepRecord.{StepRecord}
use Rattle.depends.specs.Dependence.{depends_directly}
use Rattle.depends.specs.Plans as plans
use Rattle.step_index.specs.Walks.{IsFirstFrom, record_needs, earlier}

-- ---- two of them

module _ (Q S : ℕ → Type 0) (p : StepRecord → Bool) (rs : List StepRecord) (low : ℕ) where
  pub first_of_two : (a b : Option ℕ) → IsFirstFrom Q p rs low a → IsFirstFrom S p rs low b → IsFirstFrom (λ k. Q k ⊎ S k) p rs low (earlier a b)
  first_of_two None None h g = λ k r is l q. elim q [ inl x ↦ h k r is l x | inr x ↦ g k r is l x ]
  first_of_two None (Some j) h g = (g.0, g.1, λ k r is l b q. elim q [ inl x ↦ h k r is l x | inr x ↦ g.2 k r is l b x ])
  first_of_two (Some i) None h g = (h.0, h.1, λ k r is l b q. elim q [ inl x ↦ h.2 k r is l b x | inr x ↦ g k r is l x ])
  first_of_two (Some i) (Some j) h g = elim (cases_lt i j) [
    | inl w ↦
        let e : earlier (Some i) (Some j) ≡ Some i = ap (λ b. cond b (Some i) (Some j)) (lt-ltb i j w) in
        subst (IsFirstFrom (λ k. Q k ⊎ S k) p rs low) (sym e) (h.0, h.1, λ k r is l b q. elim q [ inl x ↦ h.2 k r is l b x | inr x ↦ g.2 k r is l (omega (arith, b, w)) x ])
    | inr w ↦
        let e : earlier (Some i) (Some j) ≡ Some j = ap (λ b. cond b (Some i) (Some j)) (le-ltb i j w) in
        subst (IsFirstFrom (λ k. Q k ⊎ S k) p rs low) (sym e) (g.0, g.1, λ k r is l b q. elim q [ inl x ↦ h.2 k r is l (omega (arith, b, w)) x | inr x ↦ g.2 k r is l b x ])
  ]

-- at some places it is the first at more, where a record passes the test at none of the others
pub first_more : (Q S : ℕ → Type 0) (p : StepRecord → Bool) (rs : List StepRecord) (low : ℕ) (r : Option ℕ) → ((k : ℕ) (g : StepRecord) → slice_get rs k ≡ Some g → p g ≡ true → S k → Q k) → IsFirstFrom Q p rs low r → IsFirstFrom S p rs low r
first_more Q S p rs low r more h = by r h
  where
    fails : (k : ℕ) (g : StepRecord) → slice_get rs k ≡ Some g → (Q k → p g ≡ false) → S k → p g ≡ false
    fails k g is f s = on (p g) refl
      where
        on : (b : Bool) → p g ≡ b → p g ≡ false
        on true e = f (more k g is e s)
        on false e = e

    by : (o : Option ℕ) → IsFirstFrom Q p rs low o → IsFirstFrom S p rs low o
    by None x = λ k g is l s. fails k g is (x k g is l) s
    by (Some i) x = (x.0, x.1, λ k g is l b s. fails k g is (x.2 k g is l b) s)

-- ---- searches

abbrev pub Everywhere : ℕ → Type 0
Everywhere k = Unit {0}

slice_get_drop : {A : Type 0} (n : ℕ) (xs : List A) (k : ℕ) → slice_get (drop n xs) k ≡ slice_get xs (n + k)
slice_get_drop zero xs k = ap (slice_get xs) (omega arith)
slice_get_drop (suc n) [] k = refl
slice_get_drop (suc n) (x ∷ xs) k = slice_get_drop n xs k ∙ ap (slice_get (x ∷ xs)) (let e : suc (n + k) ≡ suc n + k = omega arith in e)

-- the rest of a list, from a place on: r is the first there
sought : (p : StepRecord → Bool) (xs : List StepRecord) (i : ℕ) (r : Option ℕ) → ((k : ℕ) (g : StepRecord) → slice_get xs k ≡ Some g → p g ≡ true → (n : ℕ) × (r ≡ Some n) × (n ≤ i + k))
    → ((n : ℕ) → r ≡ Some n → (k : ℕ) × (n ≡ i + k) × ((g : StepRecord) × (slice_get xs k ≡ Some g) × (p g ≡ true))) → position_from p i xs ≡ r
sought p [] i None low there = refl
sought p [] i (Some n) low there = let k = there n refl in absurd (let e : None ≡ Some k.2.0 = k.2.1 in cc)
sought p (x ∷ xs) i r low there = by (p x) refl (λ e. sought p xs (i + 1) r (λ k g is h. let l = low (suc k) g is h in (l.0, l.1, let a = l.2 in omega (arith, a))) (later e))
  where
    at_first : p x ≡ true → Some i ≡ r
    at_first e =
        let l = low zero x refl e in
        let k = there l.0 l.1 in
        let same : i ≡ l.0 = (let a = l.2 in let b = k.1 in omega (arith, a, b)) in
        ap Some same ∙ sym l.1

    later : p x ≡ false → (n : ℕ) → r ≡ Some n → (k : ℕ) × (n ≡ (i + 1) + k) × ((g : StepRecord) × (slice_get xs k ≡ Some g) × (p g ≡ true))
    later e n h = let f = there n h in from f.0 f.1 f.2
      where
        from : (k : ℕ) → n ≡ i + k → (g : StepRecord) × (slice_get (x ∷ xs) k ≡ Some g) × (p g ≡ true) → (k : ℕ) × (n ≡ (i + 1) + k) × ((g : StepRecord) × (slice_get xs k ≡ Some g) × (p g ≡ true))
        from zero a q = absurd (let s = same_Some x q.0 q.1 in let z : p x ≡ true = ap p s ∙ q.2 in let w : false ≡ true = sym e ∙ z in cc)
        from (suc k) a q = (k, omega (arith, a), q)

    by : (b : Bool) → p x ≡ b → (p x ≡ false → position_from p (i + 1) xs ≡ r) → position_from p i (x ∷ xs) ≡ r
    by true e rest = ap (λ b. cond b (Some i) (position_from p (i + 1) xs)) e ∙ at_first e
    by false e rest = ap (λ b. cond b (Some i) (position_from p (i + 1) xs)) e ∙ rest e

-- what is the first everywhere is what a search finds
search_is : (p : StepRecord → Bool) (rs : List StepRecord) (low : ℕ) (r : Option ℕ) → IsFirstFrom Everywhere p rs low r → position_from p low (drop low rs) ≡ r
search_is p rs low r h = sought p (drop low rs) low r (λ k g is e. least r h k g (sym (slice_get_drop low rs k) ∙ is) e) (λ n e. there r h n e)
  where
    least : (o : Option ℕ) → IsFirstFrom Everywhere p rs low o → (k : ℕ) (g : StepRecord) → slice_get rs (low + k) ≡ Some g → p g ≡ true → (n : ℕ) × (o ≡ Some n) × (n ≤ low + k)
    least None x k g is e = absurd (let f = x (low + k) g is (omega arith) tt in let w : false ≡ true = sym f ∙ e in cc)
    least (Some i) x k g is e = (
      i,
      refl,
      elim (cases_lt (low + k) i) [ inl b ↦ absurd (let f = x.2 (low + k) g is (omega arith) b tt in let w : false ≡ true = sym f ∙ e in cc) | inr b ↦ b ],
    )

    difference : (a b : ℕ) → a ≤ b → (k : ℕ) × (b ≡ a + k)
    difference zero b l = (b, omega arith)
    difference (suc a) zero l = absurd (omega (arith, l))
    difference (suc a) (suc b) l = let d = difference a b (omega (arith, l)) in (d.0, let e = d.1 in omega (arith, e))

    there : (o : Option ℕ) → IsFirstFrom Everywhere p rs low o → (n : ℕ) → o ≡ Some n → (k : ℕ) × (n ≡ low + k) × ((g : StepRecord) × (slice_get (drop low rs) k ≡ Some g) × (p g ≡ true))
    there None x n e = absurd (cc)
    there (Some i) x n e =
        let s = same_Some i n e in
        let d = difference low i x.0 in
        (d.0, sym s ∙ d.1, (x.1.0, slice_get_drop low rs d.0 ∙ ap (slice_get rs) (sym d.1) ∙ x.1.1, x.1.2))

pub position_is : (p : StepRecord → Bool) (rs : List StepRecord) (r : Option ℕ) → IsFirstFrom Everywhere p rs 0 r → r ≡ position p rs
position_is p rs r h = sym (search_is p rs 0 r h) ∙ sym (position_from-zero p rs)

-- ---- through the facts of records

facts_drop : (n : ℕ) (rs : List StepRecord) → drop n (map (λ (r : StepRecord). r.fact) rs) ≡ map (λ (r : StepRecord). r.fact) (drop n rs)
facts_drop zero rs = refl
facts_drop (suc n) [] = refl
facts_drop (suc n) (r ∷ rs) = facts_drop n rs

through : (f : Fact) (i : ℕ) (rs : List StepRecord) → position_from (depends_directly f) i (map (λ (r : StepRecord). r.fact) rs) ≡ position_from (λ (r : StepRecord). depends_directly f r.fact) i rs
through f i [] = refl
through f i (r ∷ rs) = ap (cond (depends_directly f r.fact) (Some i)) (through f (i + 1) rs)

pub first_is : (rs : List StepRecord) (at : ℕ) (f : StepRecord) (r : Option ℕ) → slice_get rs at ≡ Some f → IsFirstFrom Everywhere (record_needs f) rs (at + 1) r → r ≡ plans.first_dependent (map (λ (r : StepRecord). r.fact) rs) at
first_is rs at f r is h =
    let facts = map (λ (r : StepRecord). r.fact) rs in
    sym (
    ap (option_and_then (λ (g : Fact). position_from (depends_directly g) (at + 1) (drop (at + 1) facts))) (slice_get-map (λ (r : StepRecord). r.fact) rs at ∙ ap (option_map (λ (r : StepRecord). r.fact)) is)
    ∙ ap (position_from (depends_directly f.fact) (at + 1)) (facts_drop (at + 1) rs)
    ∙ through f.fact (at + 1) (drop (at + 1) rs)
    ∙ search_is (record_needs f) rs (at + 1) r h
    )
