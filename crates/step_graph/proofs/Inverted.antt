-- The causes that are found are those of whose plans the step is.
use Rattle.std.proofs.Common.{◌≡◌, ◌<◌, ◌≤◌, arith, ℕ, zero, suc, Bool, true, false, cond, List, [], ◌∷◌, ◌++◌, map, Option, None, Some, is_some, refl, ap, sym, subst, ◌∙◌, inl, inr}
use Rattle.std.specs.Prelude.{slice_get, option_map, option_and_then}
use Rattle.std.proofs.lemmas.Bool.{cases_lt}
use Rattle.std.proofs.lemmas.List.{append_assoc, map-append}
use Rattle.std.proofs.lemmas.Option.{same_Some, slice_get-map}
use Rattle.saved_steps.specs.declared.fact.Fact.{Fact}
use Rattle.saved_steps.specs.declared.record.StepRecord.{StepRecord}
use Rattle.depends.specs.Dependence.{depends_directly}
use Rattle.depends.specs.Plans.{depends_on}
use Rattle.depends.specs.Reasons.{reason_between}
use Rattle.depends.specs.declared.reason.Reason.{Reason}
use Rattle.depends.proofs.Reasoned.{reasons_are_dependences}
use Rattle.step_graph.specs.Causes.{causes_below, causes_of, is_in, is_in_plan, IsNeeded}
use Rattle.step_graph.specs.Edges.{reason_at}
use Rattle.step_graph.specs.declared.causing.Cause.{Cause}
use Rattle.step_graph.proofs.Inverse.{Links, first_link, in_both, in_itself, in_left, in_one, in_own, in_right, not_before, through}

abbrev pub places_of : List Cause → List ℕ
places_of found = map (λ c. c.place) found

module _ (facts : List Fact) (at : ℕ) where
  pub in_below : (n m : ℕ) → m < n → is_in_plan facts m at ≡ true → is_in m (causes_below facts at n) ≡ true
  in_below zero m l h = absurd (omega (arith, l))
  in_below (suc n) m l h = elim (cases_lt m n) [
    | inl w ↦ grown (is_in_plan facts n at) (in_below n m w h)
    | inr w ↦
        let e : m ≡ n = omega (arith, l, w) in
        subst (λ k. is_in k (causes_below facts at (suc n)) ≡ true) (sym e)
        (ap (λ b. is_in n (cond b (n ∷ causes_below facts at n) (causes_below facts at n))) (subst (λ k. is_in_plan facts k at ≡ true) e h) ∙ in_itself n (causes_below facts at n))
  ]
    where
      grown : (b : Bool) → is_in m (causes_below facts at n) ≡ true → is_in m (cond b (n ∷ causes_below facts at n) (causes_below facts at n)) ≡ true
      grown true k = in_right m (n ∷ []) (causes_below facts at n) k
      grown false k = k

  pub of_below : (n m : ℕ) → is_in m (causes_below facts at n) ≡ true → (m < n) × (is_in_plan facts m at ≡ true)
  of_below zero m h = absurd (cc)
  of_below (suc n) m h = by (is_in_plan facts n at) refl (of_below n m)
    where
      more : (m < n) × (is_in_plan facts m at ≡ true) → (m < suc n) × (is_in_plan facts m at ≡ true)
      more k = (let l = k.0 in omega (arith, l), k.1)

      by : (b : Bool) → is_in_plan facts n at ≡ b → (is_in m (causes_below facts at n) ≡ true → (m < n) × (is_in_plan facts m at ≡ true)) → (m < suc n) × (is_in_plan facts m at ≡ true)
      by true e below = elim (in_both m (n ∷ []) (causes_below facts at n) (sym (ap (λ b. is_in m (cond b (n ∷ causes_below facts at n) (causes_below facts at n))) e) ∙ h)) [
        | inl x ↦ let s : n ≡ m = in_one m n x in (omega (arith, s), subst (λ k. is_in_plan facts k at ≡ true) s e)
        | inr x ↦ more (below x)
      ]
      by false e below = more (below (sym (ap (λ b. is_in m (cond b (n ∷ causes_below facts at n) (causes_below facts at n))) e) ∙ h))

module _ (rs : List StepRecord) where
  abbrev facts : List Fact
  facts = map (λ (r : StepRecord). r.fact) rs

  fact_at : (k : ℕ) → slice_get facts k ≡ option_map (λ (r : StepRecord). r.fact) (slice_get rs k)
  fact_at k = slice_get-map (λ (r : StepRecord). r.fact) rs k

  -- a dependence has a reason
  pub linked : (a b : ℕ) (reason : Reason) → reason_at rs a b ≡ Some reason → Links facts a b
  linked a b reason h = by (slice_get rs a) refl (slice_get rs b) refl
    where
      by : (x : Option StepRecord) → slice_get rs a ≡ x → (y : Option StepRecord) → slice_get rs b ≡ y → Links facts a b
      by None e y k = absurd (let z : None ≡ Some reason = sym (ap (λ o. option_and_then (λ r. option_and_then (λ s. reason_between r.fact s.fact) (slice_get rs b)) o) e) ∙ h in cc)
      by (Some x) e None k = absurd (let z : None ≡ Some reason = sym (ap (λ o. option_and_then (λ r. option_and_then (λ s. reason_between r.fact s.fact) (slice_get rs b)) o) e ∙ ap (λ o. option_and_then (λ s. reason_between x.fact s.fact) o) k) ∙ h in cc)
      by (Some x) e (Some y) k = (
        y.fact,
        fact_at b ∙ ap (option_map (λ (r : StepRecord). r.fact)) k,
        ap (λ o. depends_on o y.fact) (fact_at a ∙ ap (option_map (λ (r : StepRecord). r.fact)) e) ∙ sym (reasons_are_dependences x.fact y.fact)
            ∙ ap is_some (sym (ap (λ o. option_and_then (λ r. option_and_then (λ s. reason_between r.fact s.fact) (slice_get rs b)) o) e ∙ ap (λ o. option_and_then (λ s. reason_between x.fact s.fact) o) k) ∙ h),
      )

  pub unlinked : (a b : ℕ) → reason_at rs a b ≡ None → Links facts a b → ⊥
  unlinked a b h link = by (slice_get rs a) refl (slice_get rs b) refl
    where
      by : (x : Option StepRecord) → slice_get rs a ≡ x → (y : Option StepRecord) → slice_get rs b ≡ y → ⊥
      by None e y k = let z : false ≡ true = sym (ap (λ o. depends_on o link.0) (fact_at a ∙ ap (option_map (λ (r : StepRecord). r.fact)) e)) ∙ link.2 in cc
      by (Some x) e None k = let z : None ≡ Some link.0 = sym (fact_at b ∙ ap (option_map (λ (r : StepRecord). r.fact)) k) ∙ link.1 in cc
      by (Some x) e (Some y) k =
          let same : Some y.fact ≡ Some link.0 = sym (fact_at b ∙ ap (option_map (λ (r : StepRecord). r.fact)) k) ∙ link.1 in
          let needs : depends_on (Some x.fact) link.0 ≡ true = sym (ap (λ o. depends_on o link.0) (fact_at a ∙ ap (option_map (λ (r : StepRecord). r.fact)) e)) ∙ link.2 in
          let none : reason_between x.fact y.fact ≡ None = sym (ap (λ o. option_and_then (λ r. option_and_then (λ s. reason_between r.fact s.fact) (slice_get rs b)) o) e ∙ ap (λ o. option_and_then (λ s. reason_between x.fact s.fact) o) k) ∙ h in
          let z : false ≡ true = ap is_some (sym none) ∙ reasons_are_dependences x.fact y.fact ∙ ap (λ o. depends_on_fact x.fact o) same ∙ needs in
          cc
        where
          depends_on_fact : Fact → Option Fact → Bool
          depends_on_fact f None = false
          depends_on_fact f (Some g) = depends_directly f g

  module _ (at place : ℕ) (found : List Cause) (before : suc place ≤ at) (all : places_of found ++ causes_below facts at (suc place) ≡ causes_of rs at) where
    -- the step itself and its causes that come later are those that were found
    member : (m : ℕ) → place < m → is_in_plan facts m at ≡ true → is_in m (at ∷ places_of found) ≡ true
    member m l h = elim (cases_lt m at) [
      | inl w ↦ in_right m (at ∷ []) (places_of found) (elim (in_both m (places_of found) (causes_below facts at (suc place)) (ap (is_in m) all ∙ in_below facts at at m w h)) [
        | inl x ↦ x
        | inr x ↦ absurd (let k = (of_below facts at (suc place) m x).0 in omega (arith, k, l))
      ])
      | inr w ↦ let e : at ≡ m = (let k = not_before facts m at h in omega (arith, w, k)) in subst (λ k. is_in k (at ∷ places_of found) ≡ true) e (in_itself at (places_of found))
    ]

    of_member : (m : ℕ) → is_in m (at ∷ places_of found) ≡ true → is_in_plan facts m at ≡ true
    of_member m h = elim (in_both m (at ∷ []) (places_of found) h) [
      | inl x ↦ subst (λ k. is_in_plan facts k at ≡ true) (in_one m at x) (in_own facts at)
      | inr x ↦ (of_below facts at at m (sym (ap (is_in m) all) ∙ in_left m (places_of found) (causes_below facts at (suc place)) x)).1
    ]

    pub is_cause : (c : Cause) → c.place ≡ place → IsNeeded rs c → place < c.needed_for → is_in c.needed_for (at ∷ places_of found) ≡ true → is_in_plan facts place at ≡ true
    is_cause c same needed after among =
        let link = linked place c.needed_for c.reason (subst (λ k. reason_at rs k c.needed_for ≡ Some c.reason) same needed) in
        through facts place c.needed_for at after link (of_member c.needed_for among)

    pub is_none : ((m : ℕ) → place < m → is_in m (at ∷ places_of found) ≡ true → reason_at rs place m ≡ None) → is_in_plan facts place at ≡ false
    is_none none = by (is_in_plan facts place at) refl
      where
        by : (b : Bool) → is_in_plan facts place at ≡ b → is_in_plan facts place at ≡ false
        by false e = e
        by true e = elim (first_link facts place at e) [
          | inl same ↦ absurd (omega (arith, same, before))
          | inr t ↦ absurd (unlinked place t.middle (none t.middle t.later (member t.middle t.later t.follows)) t.link)
        ]

    -- a cause is found, or passed by
    pub taken : (c : Cause) → c.place ≡ place → is_in_plan facts place at ≡ true → (more : List Cause) → more ≡ found ++ c ∷ [] → places_of more ++ causes_below facts at place ≡ causes_of rs at
    taken c same h more e =
        ap (λ (cs : List Cause). places_of cs ++ causes_below facts at place) e
        ∙ ap (λ (ks : List ℕ). ks ++ causes_below facts at place) (map-append (λ (x : Cause). x.place) found (c ∷ []))
        ∙ append_assoc (places_of found) (c.place ∷ []) (causes_below facts at place)
        ∙ ap (λ k. places_of found ++ k ∷ causes_below facts at place) same
        ∙ ap (λ b. places_of found ++ cond b (place ∷ causes_below facts at place) (causes_below facts at place)) (sym h)
        ∙ all

    pub passed : is_in_plan facts place at ≡ false → places_of found ++ causes_below facts at place ≡ causes_of rs at
    passed h = ap (λ b. places_of found ++ cond b (place ∷ causes_below facts at place) (causes_below facts at place)) (sym h) ∙ all

-- ---- the search among those that were found

-- none of those from a number on needs the step at a place
abbrev pub ArePassed : List StepRecord → ℕ → List Cause → ℕ → Type 0
ArePassed rs place found left = (k : ℕ) (c : Cause) → slice_get found k ≡ Some c → left ≤ k → place < c.place → reason_at rs place c.place ≡ None

pub found_at : (m : ℕ) (found : List Cause) → is_in m (places_of found) ≡ true → (k : ℕ) × (c : Cause) × (slice_get found k ≡ Some c) × (c.place ≡ m)
found_at m [] h = cc
found_at m (c ∷ cs) h = elim (in_both m (c.place ∷ []) (places_of cs) h) [
  | inl x ↦ (0, c, refl, in_one m c.place x)
  | inr x ↦ let k = found_at m cs x in (suc k.0, k.1, k.2, k.3)
]

pub among : (found : List Cause) (k at : ℕ) (c : Cause) → slice_get found k ≡ Some c → is_in c.place (at ∷ places_of found) ≡ true
among found k at c h = in_right c.place (at ∷ []) (places_of found) (by found k h)
  where
    by : (found : List Cause) (k : ℕ) → slice_get found k ≡ Some c → is_in c.place (places_of found) ≡ true
    by [] k h = cc
    by (x ∷ xs) zero h = subst (λ (y : Cause). is_in c.place (y.place ∷ places_of xs) ≡ true) (sym (same_Some x c h)) (in_itself c.place (places_of xs))
    by (x ∷ xs) (suc k) h = in_right c.place (x.place ∷ []) (places_of xs) (by xs k h)

pub none_needs : (rs : List StepRecord) (place at : ℕ) (found : List Cause) → ArePassed rs place found 0 → (place < at → reason_at rs place at ≡ None)
    → (m : ℕ) → place < m → is_in m (at ∷ places_of found) ≡ true → reason_at rs place m ≡ None
none_needs rs place at found passed own m l h = elim (in_both m (at ∷ []) (places_of found) h) [
  | inl x ↦ let e : at ≡ m = in_one m at x in subst (λ k. reason_at rs place k ≡ None) e (own (subst (λ k. place < k) (sym e) l))
  | inr x ↦
      let k = found_at m found x in
      subst (λ n. reason_at rs place n ≡ None) k.3 (passed k.0 k.1 k.2 (omega arith) (subst (λ n. place < n) (sym k.3) l))
]
