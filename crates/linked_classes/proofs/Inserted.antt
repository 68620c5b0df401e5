-- A member comes into a class.
use Rattle.std.proofs.Common.{◌≡◌, ◌≢◌, ◌<◌, ℕ, Option, None, Some, refl, ap, sym, subst, ◌∙◌, inl, inr}
use Rattle.std.proofs.lemmas.Option.{same_Some}
use Rattle.linked_classes.specs.Linked.{IsNearest, IsForemost, IsNext, IsBefore, Rises, Falls, relinked, reended, AreLinked}
use Rattle.linked_classes.proofs.Gets.{one_or_other}
use Rattle.linked_classes.proofs.Updates.{updated_here, updated_elsewhere, IsOrder, rising, falling}

-- S is the converse of R: p is the member nearest to i on the one side, n that on the other
module _ (R S : ℕ → ℕ → Type 0) (o : IsOrder R) (turned : (a b : ℕ) → S a b → R b a) (back : (a b : ℕ) → R a b → S b a)
    (f g : ℕ → Option ℕ) (i c : ℕ) (fresh : f i ≡ None) (here : g i ≡ Some c) (same : (k : ℕ) → k ≢ i → g k ≡ f k)
    (p n : Option ℕ) (is_p : IsNearest S f c i p) (is_n : IsNearest R f c i n) where
  old : (k d : ℕ) → k ≢ i → g k ≡ Some d → f k ≡ Some d
  old k d apart is = sym (same k apart) ∙ is

  apart_from : (k d : ℕ) → f k ≡ Some d → k ≢ i
  apart_from k d is e = let x : None ≡ Some d = sym fresh ∙ ap f (sym e) ∙ is in cc

  kept : (k d : ℕ) → f k ≡ Some d → g k ≡ Some d
  kept k d is = same k (apart_from k d is) ∙ is

  its_class : (k d : ℕ) → k ≡ i → g k ≡ Some d → c ≡ d
  its_class k d e is = same_Some c d (sym here ∙ ap g (sym e) ∙ is)

  -- the new member's own link
  own : (r : Option ℕ) → IsNearest R f c i r → IsNearest R g c i r
  own None h = λ k beyond is. h k beyond (old k c (λ e. o.strict i (subst (R i) e beyond)) is)
  own (Some j) h = (h.0, kept j c h.1, λ k beyond below is. h.2 k beyond below (old k c (λ e. o.strict i (subst (R i) e beyond)) is))

  -- that of the member before it
  joined : (q : ℕ) → IsNearest S f c i (Some q) → IsNearest R g c q (Some i)
  joined q h = (turned i q h.0, here, λ k beyond below is. h.2 k (back k i below) (back q k beyond) (old k c (λ e. o.strict i (subst (λ x. R x i) e below)) is))

  -- where the new member lies beyond another, the one before it does too, or is it
  reached : (k : ℕ) (r : Option ℕ) → IsNearest S f c i r → R k i → f k ≡ Some c → (r ≡ Some k → ⊥) → (q : ℕ) × (f q ≡ Some c) × R k q × R q i
  reached k None h below is apart = absurd (h k (back k i below) is)
  reached k (Some q) h below is apart = (q, h.1, beyond, turned i q h.0)
    where
      beyond : R k q
      beyond = elim (o.total k q (λ e. apart (ap Some (sym e)))) [ inl w ↦ w | inr w ↦ absurd (h.2 k (back k i below) (back q k w) is) ]

  stays : (k d : ℕ) (r : Option ℕ) → f k ≡ Some d → (p ≡ Some k → ⊥) → IsNearest R f d k r → IsNearest R g d k r
  stays k d None is apart h = λ m beyond new. elim (one_or_other m i) [
    | inl w ↦
        let e = its_class m d w new in
        let q = reached k p is_p (subst (R k) w beyond) (is ∙ ap Some (sym e)) apart in
        h q.0 q.2 (q.1 ∙ ap Some e)
    | inr w ↦ h m beyond (old m d w new)
  ]
  stays k d (Some j) is apart h = (
    h.0,
    kept j d h.1,
    λ m beyond below new. elim (one_or_other m i) [
      | inl w ↦
          let e = its_class m d w new in
          let q = reached k p is_p (subst (R k) w beyond) (is ∙ ap Some (sym e)) apart in
          h.2 q.0 q.2 (o.trans q.0 i j q.3 (subst (λ x. R x j) w below)) (q.1 ∙ ap Some e)
      | inr w ↦ h.2 m beyond below (old m d w new)
    ],
  )

  -- the link of one that is not the member before
  link_of : (link link' : ℕ → Option ℕ) → link' i ≡ n → ((k : ℕ) → k ≢ i → link' k ≡ link k) → ((k d : ℕ) → f k ≡ Some d → IsNearest R f d k (link k))
      → (k d : ℕ) → g k ≡ Some d → (p ≡ Some k → ⊥) → IsNearest R g d k (link' k)
  link_of link link' new others h k d is apart = elim (one_or_other k i) [
    | inl w ↦ subst (IsNearest R g d k) (sym (ap link' w ∙ new)) (subst (λ x. IsNearest R g d x n) (sym w) (subst (λ x. IsNearest R g x i n) (its_class k d w is) (own n is_n)))
    | inr w ↦ subst (IsNearest R g d k) (sym (others k w)) (stays k d (link k) (old k d w is) apart (h k d (old k d w is)))
  ]

  links_by : (r : Option ℕ) → p ≡ r → (link link' : ℕ → Option ℕ) → link' i ≡ n → ((k : ℕ) → k ≢ i → link' k ≡ link k) → ((k d : ℕ) → f k ≡ Some d → IsNearest R f d k (link k))
      → (k d : ℕ) → g k ≡ Some d → IsNearest R g d k (relinked r link' (Some i) k)
  links_by None at link link' new others h k d is = link_of link link' new others h k d is (λ e. let x : None ≡ Some k = sym at ∙ e in cc)
  links_by (Some q) at link link' new others h k d is = elim (one_or_other k q) [
    | inl w ↦ subst (IsNearest R g d k) (sym (updated_here link' q (Some i) k w)) (subst (λ x. IsNearest R g d x (Some i)) (sym w) (at_last w))
    | inr w ↦ subst (IsNearest R g d k) (sym (updated_elsewhere link' q (Some i) k w)) (link_of link link' new others h k d is (λ e. w (sym (same_Some q k (sym at ∙ e)))))
  ]
    where
      before : IsNearest S f c i (Some q)
      before = subst (IsNearest S f c i) at is_p

      at_last : k ≡ q → IsNearest R g d q (Some i)
      at_last w = subst (λ x. IsNearest R g x q (Some i)) (same_Some c d (sym (kept q c before.1) ∙ ap g (sym w) ∙ is)) (joined q before)

  pub links_inserted : (link link' : ℕ → Option ℕ) → link' i ≡ n → ((k : ℕ) → k ≢ i → link' k ≡ link k) → ((k d : ℕ) → f k ≡ Some d → IsNearest R f d k (link k))
      → (k d : ℕ) → g k ≡ Some d → IsNearest R g d k (relinked p link' (Some i) k)
  links_inserted = links_by p refl

  -- a class whose foremost member, if it is that of the new one, lies before it
  end_stays : (d : ℕ) (r : Option ℕ) → (d ≡ c → (q : ℕ) × (f q ≡ Some c) × R q i) → IsForemost R f d r → IsForemost R g d r
  end_stays d None before h = λ m new. elim (one_or_other m i) [
    | inl w ↦ let e = its_class m d w new in let q = before (sym e) in h q.0 (q.1 ∙ ap Some e)
    | inr w ↦ h m (old m d w new)
  ]
  end_stays d (Some j) before h = (
    kept j d h.0,
    λ m below new. elim (one_or_other m i) [
      | inl w ↦ let e = its_class m d w new in let q = before (sym e) in h.1 q.0 (o.trans q.0 i j q.2 (subst (λ x. R x j) w below)) (q.1 ∙ ap Some e)
      | inr w ↦ h.1 m below (old m d w new)
    ],
  )

  ends_by : (r : Option ℕ) → p ≡ r → (end : ℕ → Option ℕ) → ((d : ℕ) → IsForemost R f d (end d)) → (d : ℕ) → IsForemost R g d (reended r c end (Some i) d)
  ends_by None at end h d = elim (one_or_other d c) [
    | inl w ↦ subst (IsForemost R g d) (sym (updated_here end c (Some i) d w)) (
      here ∙ ap Some (sym w),
      λ k below is.
          alone k (back k i below) (old k c (λ e. o.strict i (subst (λ x. R x i) e below)) (is ∙ ap Some w)),
    )
    | inr w ↦ subst (IsForemost R g d) (sym (updated_elsewhere end c (Some i) d w)) (end_stays d (end d) (λ e. absurd (w e)) (h d))
  ]
    where
      alone : IsNearest S f c i None
      alone = subst (IsNearest S f c i) at is_p
  ends_by (Some q) at end h d = let before : IsNearest S f c i (Some q) = subst (IsNearest S f c i) at is_p in end_stays d (end d) (λ e. (q, before.1, turned i q before.0)) (h d)

  pub ends_inserted : (end : ℕ → Option ℕ) → ((d : ℕ) → IsForemost R f d (end d)) → (d : ℕ) → IsForemost R g d (reended p c end (Some i) d)
  ends_inserted = ends_by p refl

-- both directions
pub inserted : (f g next next' before before' first last : ℕ → Option ℕ) (i c width : ℕ) (p n : Option ℕ) → f i ≡ None → g i ≡ Some c → ((k : ℕ) → k ≢ i → g k ≡ f k)
    → next' i ≡ n → ((k : ℕ) → k ≢ i → next' k ≡ next k) → before' i ≡ p → ((k : ℕ) → k ≢ i → before' k ≡ before k)
    → c < width → IsBefore f c i p → IsNext f c i n → AreLinked f next before first last width
    → AreLinked g (relinked p next' (Some i)) (relinked n before' (Some i)) (reended p c first (Some i)) (reended n c last (Some i)) width
inserted f g next next' before before' first last i c width p n fresh here same new_next other_next new_before other_before known is_p is_n h = record {
  known = λ k d is. elim (one_or_other k i) [
    | inl w ↦ subst (λ x. x < width) (same_Some c d (sym here ∙ ap g (sym w) ∙ is)) known
    | inr w ↦ h.known k d (sym (same k w) ∙ is)
  ];
  nexts = links_inserted Rises Falls rising (λ a b w. w) (λ a b w. w) f g i c fresh here same p n is_p is_n next next' new_next other_next h.nexts;
  befores = links_inserted Falls Rises falling (λ a b w. w) (λ a b w. w) f g i c fresh here same n p is_n is_p before before' new_before other_before h.befores;
  firsts = ends_inserted Rises Falls rising (λ a b w. w) (λ a b w. w) f g i c fresh here same p n is_p is_n first h.firsts;
  lasts = ends_inserted Falls Rises falling (λ a b w. w) (λ a b w. w) f g i c fresh here same n p is_n is_p last h.lasts;
}
