-- What is left of held consequences, as steps are taken and undone.
use Rattle.std.proofs.Common.{◌≡◌, ◌+◌, Bool, true, false, List, [], ◌∷◌, length, arith, refl, ap, sym, subst, ◌∙◌}
use Rattle.std.specs.Prelude.{not, ◌&&◌}
use Rattle.trace_theory.specs.Traces.{Machine, Occurrence, Event, takes, undoes, Moment, In, names_of, needs, is_among, without, IsMaximal, IsRun, left, next, later, MayHappen, MayFollow, lowered, IsLeft, IsReversible, HasNames, HoldIsWhatIsLeft, consequences}
use Rattle.trace_theory.proofs.Lists.{by_bool, In-front, In-filter, place, filter-all, one_any, any_one}
use Rattle.trace_theory.proofs.Least.{Once, not_backward, one_step, without_one, consequences-ordered, consequences-in, consequences-more}
use Rattle.trace_theory.proofs.Orders.{stays, consequences-without, only_itself, undo_free}
use Rattle.trace_theory.proofs.Arranged.{In-names, length-middle}

module _ {W N F S : Type 0} (m : Machine W N F S) (base : W) (names : HasNames m base) where
  -- the steps are those of a run, and the held one stands until it is undone
  pub record Stands (s : Occurrence N F S) (now : Moment N F S) : Type 0 where
    pub world : W
    pub runs : IsRun m base now.steps world
    pub there : now.is_held ≡ true → In s now.steps

  pub once_now : (s : Occurrence N F S) (now : Moment N F S) → Stands s now → Once m base names now.steps
  once_now s now h x y b = names.once now.steps h.world x y h.runs b

  pub left-in : (s : N) (now : Moment N F S) (x : Occurrence N F S) → In x (left m s now) → In x now.steps
  left-in s now x i = by_bool now.is_held (In x now.steps) (λ k. consequences-in m base names now.steps s x (rw k at i)) (λ k. absurd (rw k at i))

  pub left_once : (s : Occurrence N F S) (now : Moment N F S) → Stands s now → Once m base names (left m s.step now)
  left_once s now h x y b = by_bool now.is_held _ (λ k. once_now s now h x y (consequences-ordered m base names now.steps s.step x y (rw k at b))) (λ k. absurd (rw k at b))

  -- an undoing takes the step out of what is left, and nothing else
  pub left_undone : (s t : Occurrence N F S) (now : Moment N F S) → Stands s now → IsMaximal m now.steps t → left m s.step (next m s.step now (undoes t)) ≡ without m (t ∷ []) (left m s.step now)
  left_undone s t now h free =
      by_bool now.is_held _
      (λ k. by_bool (m.is_same s.step t.step) _
      (λ j. let e : s ≡ t = one_step m base names now.steps (once_now s now h) s t (h.there k) free.0 j in
      let alone = only_itself m base names now.steps s (once_now s now h) (subst (IsMaximal m now.steps) (sym e) free) in
      let back = names.alike s.step t.step j in
      rw (k, j, alone, back) refl)
      (λ j. rw (k, j) (consequences-without m base names now.steps t s.step (once_now s now h) free j)))
      (λ k. rw k refl)

  pub left_taken : (s t : Occurrence N F S) (now : Moment N F S) → Stands s now → ((x : Occurrence N F S) → In x (left m s.step now) → needs m x t ≡ false) → left m s.step (next m s.step now (takes t)) ≡ left m s.step now
  left_taken s t now h a =
      by_bool now.is_held _
      (λ k. let a' = rw k at a in rw k (consequences-more m base names now.steps s t (once_now s now h) (h.there k) a'))
      (λ k. rw k refl)

  pub left_member : (s t : Occurrence N F S) (now : Moment N F S) → Stands s now → IsMaximal m now.steps t → In t (left m s.step now) → length (left m s.step (next m s.step now (undoes t))) + 1 ≡ length (left m s.step now)
  left_member s t now h free i =
      let p = place t (left m s.step now) i in
      let e = left_undone s t now h free ∙ ap (without m (t ∷ [])) p.whole ∙ without_one m base names p.front p.back t (subst (Once m base names) p.whole (left_once s now h)) in
      ap (λ (l : List (Occurrence N F S)). length l + 1) e ∙ sym (length-middle m base names p.front p.back t) ∙ ap length (sym p.whole)

  pub left_other : (s t : Occurrence N F S) (now : Moment N F S) → Stands s now → IsMaximal m now.steps t → (In t (left m s.step now) → ⊥) → left m s.step (next m s.step now (undoes t)) ≡ left m s.step now
  left_other s t now h free out = left_undone s t now h free ∙ filter-all (λ y. not (is_among m (t ∷ []) y)) (left m s.step now) (λ y i. kept y i)
    where
      kept : (y : Occurrence N F S) → In y (left m s.step now) → not (is_among m (t ∷ []) y) ≡ true
      kept y i = by_bool (m.is_same t.step y.step) _
          (λ k. absurd (out (subst (λ (z : Occurrence N F S). In z (left m s.step now)) (sym (one_step m base names now.steps (once_now s now h) t y free.0 (left-in s.step now y i) k)) i)))
          (λ k. rw k refl)

  pub among_left : (s t : Occurrence N F S) (now : Moment N F S) → Stands s now → IsMaximal m now.steps t → is_among m (left m s.step now) t ≡ true → In t (left m s.step now)
  among_left s t now h free e =
      let r = one_any (λ (x : Occurrence N F S). m.is_same x.step t.step) (left m s.step now) e in
      subst (λ (z : Occurrence N F S). In z (left m s.step now)) (one_step m base names now.steps (once_now s now h) r.0 t (left-in s.step now r.0 r.1) free.0 r.2) r.1

  pub gone_now : (s : Occurrence N F S) (now : Moment N F S) → Stands s now → (In s.step (names_of m now.steps) → ⊥) → left m s.step now ≡ []
  gone_now s now h out = by_bool now.is_held _ (λ k. absurd (out (In-names m base names s now.steps (h.there k)))) (λ k. rw k refl)

  both : (b c : Bool) → (b && c) ≡ true → (b ≡ true) × (c ≡ true)
  both true c h = (refl, h)
  both false c h = cc

  module _ (law : IsReversible m base) where
    pub stands_next : (s : Occurrence N F S) (now : Moment N F S) (e : Event N F S) → Stands s now → MayHappen m base s.step now e → Stands s (next m s.step now e)
    stands_next s now (takes t) h may = record { world = may.0.0; runs = may.0.1; there = λ k. In-front s now.steps (t ∷ []) (h.there k) }
    stands_next s now (undoes t) h free = record {
      world = _;
      runs = undo_free m base names law h.world now.steps t h.runs free;
      there = λ k. let b = both now.is_held (not (m.is_same s.step t.step)) k in stays m base names now.steps t s (h.there b.0) (not_backward m base names s.step t.step (by_bool (m.is_same s.step t.step) _ (λ j. let c = b.1 in let c' = rw j at c in absurd (cc)) (λ j. j)));
    }

    left_later : (s : Occurrence N F S) (es : List (Event N F S)) (now : Moment N F S) → Stands s now → MayFollow m base s.step now es → IsLeft m base (left m s.step now) s.step (later m s.step now es) (lowered m s.step now es)
    left_later s [] now h may = record {
      inside = λ x i. i;
      counted = omega arith;
      by_member = λ t free i. left_member s t now h free i;
      by_other = λ t free out. left_other s t now h free out;
      by_step = λ t may. left_taken s t now h may.1;
      gone = gone_now s now h;
    }
    left_later s (takes t ∷ es) now h may =
        let k = left_later s es (next m s.step now (takes t)) (stands_next s now (takes t) h may.0) may.1 in
        let e = left_taken s t now h may.0.1 in
        record { inside = λ x i. subst (In x) e (k.inside x i); counted = k.counted ∙ ap length e; by_member = k.by_member; by_other = k.by_other; by_step = k.by_step; gone = k.gone }
    left_later s (undoes t ∷ es) now h may =
        let k = left_later s es (next m s.step now (undoes t)) (stands_next s now (undoes t) h may.0) may.1 in
        record {
          inside = λ x i. (In-filter (λ y. not (is_among m (t ∷ []) y)) (left m s.step now) x (subst (In x) (left_undone s t now h may.0) (k.inside x i))).0;
          counted = by_bool (is_among m (left m s.step now) t) _
              (λ j. let e = left_member s t now h may.0 (among_left s t now h may.0 j) in let c = k.counted in rw j (omega (arith, e, c)))
              (λ j. let e = left_other s t now h may.0 (λ i. let f = any_one (λ (x : Occurrence N F S). m.is_same x.step t.step) (left m s.step now) t i (names.itself t.step) in absurd (cc)) in let l = ap length e in let c = k.counted in rw j (omega (arith, l, c)));
          by_member = k.by_member;
          by_other = k.by_other;
          by_step = k.by_step;
          gone = k.gone;
        }

    pub held_is_left : HoldIsWhatIsLeft m base
    held_is_left v s now es h i k may =
        let all : left m s.step now ≡ consequences m now.steps s.step = rw k refl in
        subst (λ l. IsLeft m base l s.step (later m s.step now es) (lowered m s.step now es)) all (left_later s es now (record { world = v; runs = h; there = λ _. i }) may)
