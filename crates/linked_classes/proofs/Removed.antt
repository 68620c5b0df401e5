-- A member leaves its class.
use Rattle.std.proofs.Common.{◌≡◌, ◌≢◌, ℕ, Option, None, Some, refl, ap, sym, subst, ◌∙◌, inl, inr}
use Rattle.std.proofs.lemmas.Option.{same_Some}
use Rattle.linked_classes.specs.Linked.{IsNearest, IsForemost, IsNext, IsBefore, Rises, Falls, relinked, reended, AreLinked}
use Rattle.linked_classes.proofs.Gets.{one_or_other}
use Rattle.linked_classes.proofs.Updates.{updated_here, updated_elsewhere, IsOrder, rising, falling}

-- S is the converse of R: p is the member nearest to i on the one side, n that on the other
module _ (R S : ℕ → ℕ → Type 0) (o : IsOrder R) (turned : (a b : ℕ) → S a b → R b a) (back : (a b : ℕ) → R a b → S b a)
    (f g : ℕ → Option ℕ) (i c : ℕ) (was : f i ≡ Some c) (gone : g i ≡ None) (same : (k : ℕ) → k ≢ i → g k ≡ f k)
    (p n : Option ℕ) (is_p : IsNearest S f c i p) (is_n : IsNearest R f c i n) where
  apart_from : (k d : ℕ) → g k ≡ Some d → k ≢ i
  apart_from k d is e = let x : None ≡ Some d = sym gone ∙ ap g (sym e) ∙ is in cc

  old : (k d : ℕ) → g k ≡ Some d → f k ≡ Some d
  old k d is = sym (same k (apart_from k d is)) ∙ is

  -- those beyond the member before it are beyond it
  passed : (q : ℕ) → IsNearest S f c i (Some q) → (k : ℕ) → R q k → g k ≡ Some c → R i k
  passed q h k beyond is = elim (o.total k i (apart_from k c is)) [ inl w ↦ absurd (h.2 k (back k i w) (back q k beyond) (old k c is)) | inr w ↦ w ]

  joined : (q : ℕ) (r : Option ℕ) → IsNearest S f c i (Some q) → IsNearest R f c i r → IsNearest R g c q r
  joined q None a b = λ k beyond is. b k (passed q a k beyond is) (old k c is)
  joined q (Some j) a b = (
    o.trans q i j (turned i q a.0) b.0,
    same j (λ e. o.strict i (subst (R i) e b.0)) ∙ b.1,
    λ k beyond below is. b.2 k (passed q a k beyond is) below (old k c is),
  )

  stays : (k d : ℕ) (r : Option ℕ) → (r ≡ Some i → ⊥) → IsNearest R f d k r → IsNearest R g d k r
  stays k d None apart h = λ m beyond is. h m beyond (old m d is)
  stays k d (Some j) apart h = (h.0, same j (λ e. apart (ap Some e)) ∙ h.1, λ m beyond below is. h.2 m beyond below (old m d is))

  -- one that is linked to it is the member before it
  leads : (k d : ℕ) (r : Option ℕ) → f k ≡ Some d → IsNearest S f c i r → IsNearest R f d k (Some i) → r ≡ Some k
  leads k d None is a b = let e = same_Some c d (sym was ∙ b.1) in absurd (a k (back k i b.0) (is ∙ ap Some (sym e)))
  leads k d (Some q) is a b =
      let e = same_Some c d (sym was ∙ b.1) in
      elim (one_or_other q k) [
        | inl w ↦ ap Some w
        | inr w ↦ absurd (elim (o.total q k w) [ inl v ↦ a.2 k (back k i b.0) (back q k v) (is ∙ ap Some (sym e)) | inr v ↦ b.2 q v (turned i q a.0) (a.1 ∙ ap Some e) ])
      ]

  link_of : (link : ℕ → Option ℕ) → ((k d : ℕ) → f k ≡ Some d → IsNearest R f d k (link k)) → (k d : ℕ) → g k ≡ Some d → (p ≡ Some k → ⊥) → IsNearest R g d k (link k)
  link_of link h k d is apart = stays k d (link k) (λ e. apart (leads k d p (old k d is) is_p (subst (IsNearest R f d k) e (h k d (old k d is))))) (h k d (old k d is))

  links_by : (r : Option ℕ) → p ≡ r → (link link' : ℕ → Option ℕ) → ((k : ℕ) → k ≢ i → link' k ≡ link k) → ((k d : ℕ) → f k ≡ Some d → IsNearest R f d k (link k))
      → (k d : ℕ) → g k ≡ Some d → IsNearest R g d k (relinked r link' n k)
  links_by None at link link' others h k d is =
      subst (IsNearest R g d k) (sym (others k (apart_from k d is))) (link_of link h k d is (λ e. let x : None ≡ Some k = sym at ∙ e in cc))
  links_by (Some q) at link link' others h k d is = elim (one_or_other k q) [
    | inl w ↦ subst (IsNearest R g d k) (sym (updated_here link' q n k w)) (subst (λ x. IsNearest R g d x n) (sym w) (at_last w))
    | inr w ↦ subst (IsNearest R g d k) (sym (updated_elsewhere link' q n k w ∙ others k (apart_from k d is))) (link_of link h k d is (λ e. w (sym (same_Some q k (sym at ∙ e)))))
  ]
    where
      before : IsNearest S f c i (Some q)
      before = subst (IsNearest S f c i) at is_p

      at_last : k ≡ q → IsNearest R g d q n
      at_last w = subst (λ x. IsNearest R g x q n) (same_Some c d (sym before.1 ∙ ap f (sym w) ∙ old k d is)) (joined q n before is_n)

  pub links_removed : (link link' : ℕ → Option ℕ) → ((k : ℕ) → k ≢ i → link' k ≡ link k) → ((k d : ℕ) → f k ≡ Some d → IsNearest R f d k (link k))
      → (k d : ℕ) → g k ≡ Some d → IsNearest R g d k (relinked p link' n k)
  links_removed = links_by p refl

  end_stays : (d : ℕ) (r : Option ℕ) → (r ≡ Some i → ⊥) → IsForemost R f d r → IsForemost R g d r
  end_stays d None apart h = λ m is. h m (old m d is)
  end_stays d (Some j) apart h = (same j (λ e. apart (ap Some e)) ∙ h.0, λ m below is. h.1 m below (old m d is))

  -- where nothing was before it, the one beyond comes foremost
  end_moves : (r : Option ℕ) → IsNearest S f c i None → IsNearest R f c i r → IsForemost R g c r
  end_moves None a b = λ k is. elim (o.total k i (apart_from k c is)) [ inl w ↦ a k (back k i w) (old k c is) | inr w ↦ b k w (old k c is) ]
  end_moves (Some j) a b = (
    same j (λ e. o.strict i (subst (R i) e b.0)) ∙ b.1,
    λ k below is. elim (o.total k i (apart_from k c is)) [ inl w ↦ a k (back k i w) (old k c is) | inr w ↦ b.2 k w below (old k c is) ],
  )

  -- a class whose foremost member it was is its own
  its_class : (end : ℕ → Option ℕ) → ((d : ℕ) → IsForemost R f d (end d)) → (d : ℕ) → end d ≡ Some i → d ≡ c
  its_class end h d e = let x : IsForemost R f d (Some i) = subst (IsForemost R f d) e (h d) in same_Some d c (sym x.0 ∙ was)

  ends_by : (r : Option ℕ) → p ≡ r → (end : ℕ → Option ℕ) → ((d : ℕ) → IsForemost R f d (end d)) → (d : ℕ) → IsForemost R g d (reended r c end n d)
  ends_by None at end h d = elim (one_or_other d c) [
    | inl w ↦ subst (IsForemost R g d) (sym (updated_here end c n d w)) (subst (λ x. IsForemost R g x n) (sym w) (end_moves n (subst (IsNearest S f c i) at is_p) is_n))
    | inr w ↦ subst (IsForemost R g d) (sym (updated_elsewhere end c n d w)) (end_stays d (end d) (λ e. w (its_class end h d e)) (h d))
  ]
  ends_by (Some q) at end h d = end_stays d (end d) (λ e.
      let before : IsNearest S f c i (Some q) = subst (IsNearest S f c i) at is_p in
      let x : IsForemost R f c (Some i) = subst (λ y. IsForemost R f y (Some i)) (its_class end h d e) (subst (IsForemost R f d) e (h d)) in
      x.1 q (turned i q before.0) before.1) (h d)

  pub ends_removed : (end : ℕ → Option ℕ) → ((d : ℕ) → IsForemost R f d (end d)) → (d : ℕ) → IsForemost R g d (reended p c end n d)
  ends_removed = ends_by p refl

-- both directions
pub removed : (f g next next' before before' first last : ℕ → Option ℕ) (i c width : ℕ) (p n : Option ℕ) → f i ≡ Some c → g i ≡ None → ((k : ℕ) → k ≢ i → g k ≡ f k)
    → ((k : ℕ) → k ≢ i → next' k ≡ next k) → ((k : ℕ) → k ≢ i → before' k ≡ before k) → IsBefore f c i p → IsNext f c i n → AreLinked f next before first last width
    → AreLinked g (relinked p next' n) (relinked n before' p) (reended p c first n) (reended n c last p) width
removed f g next next' before before' first last i c width p n was gone same other_next other_before is_p is_n h = record {
  known = λ k d is. elim (one_or_other k i) [
    | inl w ↦ absurd (let x : None ≡ Some d = sym gone ∙ ap g (sym w) ∙ is in cc)
    | inr w ↦ h.known k d (sym (same k w) ∙ is)
  ];
  nexts = links_removed Rises Falls rising (λ a b w. w) (λ a b w. w) f g i c was gone same p n is_p is_n next next' other_next h.nexts;
  befores = links_removed Falls Rises falling (λ a b w. w) (λ a b w. w) f g i c was gone same n p is_n is_p before before' other_before h.befores;
  firsts = ends_removed Rises Falls rising (λ a b w. w) (λ a b w. w) f g i c was gone same p n is_p is_n first h.firsts;
  lasts = ends_removed Falls Rises falling (λ a b w. w) (λ a b w. w) f g i c was gone same n p is_n is_p last h.lasts;
}
