-- For a program that keeps the records of a run: its list of names is `ns`, its world `v`, its records `ts`, and they are tied
-- by `run m base ns ≡ Some (v, ts)`. Names are left out by a filter, and records at a place.
use Rattle.std.proofs.Common.{◌≡◌, Bool, true, false, cond, List, [], ◌∷◌, ◌++◌, map, refl, ap, sym, subst, ◌∙◌, inl, inr, append_assoc, Option, None, Some}
use Rattle.std.specs.Prelude.{not, ◌||◌, filter, reverse, option_map, option_and_then}
use Rattle.std.specs.List.{list_any}
use Rattle.std.proofs.lemmas.Option.{same_Some}
use Rattle.trace_theory.specs.Traces.{Machine, Occurrence, In, Before, run, names_of, IsRun, needs, undone, undo_each, is_among, without, consequences_from, consequences, IsMaximal, IsBackwardOrder, IsReversible, HasNames}
use Rattle.trace_theory.proofs.Lists.{by_bool, In-split, here, Before-back, Before-across, behind_place, filter-same, any_none, any_one, none_any}
use Rattle.trace_theory.proofs.Runs.{and_then_some, map_some, run_more}
use Rattle.trace_theory.proofs.Commuting.{free_steps_undo}
use Rattle.trace_theory.proofs.Least.{Once, never_twice, not_backward, without_one, after_at}
use Rattle.trace_theory.proofs.After.{consequences_from-in}
use Rattle.trace_theory.proofs.Orders.{unneeded_behind, without_none, without_more, after_undoes}

module _ {W N F S : Type 0} (m : Machine W N F S) where
  abbrev pub taken : W → N → F → Occurrence N F S
  taken w n f = record { step = n; fact = f; saved = m.saved w f }

  -- a run that a program's own definition sees: of each step it may show another record, or its fact alone
  pub run_seen : {R : Type 0} (see : Occurrence N F S → R) (own : W → List N → Option (W × List R)) → ((w : W) → own w [] ≡ Some (w, []))
      → ((w : W) (n : N) (ns : List N) → own w (n ∷ ns) ≡ option_and_then (λ p. option_map (λ q. (q.0, see (taken w n p.1) ∷ q.1)) (own p.0 ns)) (m.take w n))
      → (ns : List N) (w : W) → own w ns ≡ option_map (λ q. (q.0, map see q.1)) (run m w ns)
  run_seen {R = R} see own none more [] w = none w
  run_seen {R = R} see own none more (n ∷ ns) w = more w n ns ∙ first (m.take w n) (λ p. run_seen see own none more ns p.0)
    where
      rest : (f : F) (o : Option (W × List (Occurrence N F S))) → option_map {U = W × List R} (λ q. (q.0, see (taken w n f) ∷ q.1)) (option_map {U = W × List R} (λ q. (q.0, map see q.1)) o) ≡ option_map {U = W × List R} (λ q. (q.0, map see q.1)) (option_map {U = W × List (Occurrence N F S)} (λ q. (q.0, taken w n f ∷ q.1)) o)
      rest f None = refl
      rest f (Some q) = refl

      first : (o : Option (W × F)) → ((p : W × F) → own p.0 ns ≡ option_map (λ q. (q.0, map see q.1)) (run m p.0 ns))
          → option_and_then (λ p. option_map {U = W × List R} (λ q. (q.0, see (taken w n p.1) ∷ q.1)) (own p.0 ns)) o ≡ option_map {U = W × List R} (λ q. (q.0, map see q.1)) (option_and_then (λ p. option_map {U = W × List (Occurrence N F S)} (λ q. (q.0, taken w n p.1 ∷ q.1)) (run m p.0 ns)) o)
      first None h = refl
      first (Some p) h = ap (option_map {U = W × List R} (λ q. (q.0, see (taken w n p.1) ∷ q.1))) (h p) ∙ rest p.1 (run m p.0 ns)

  -- the records have the names that were run
  pub run_names : (ns : List N) (w v : W) (ts : List (Occurrence N F S)) → run m w ns ≡ Some (v, ts) → names_of m ts ≡ ns
  run_names [] w v ts h = ap (λ (p : W × List (Occurrence N F S)). names_of m p.1) (sym (same_Some _ _ h))
  run_names (n ∷ ns) w v ts h =
      let a = and_then_some _ (m.take w n) (v, ts) h in
      let b = map_some (λ (q : W × List (Occurrence N F S)). (q.0, taken w n a.0.1 ∷ q.1)) (run m a.0.0 ns) (v, ts) a.2 in
      ap (λ (p : W × List (Occurrence N F S)). names_of m p.1) (sym b.2) ∙ ap (λ (l : List N). n ∷ l) (run_names ns a.0.0 b.0.0 b.0.1 b.1)

  pub run_is : (ns : List N) (w v : W) (ts : List (Occurrence N F S)) → run m w ns ≡ Some (v, ts) → IsRun m w ts v
  run_is ns w v ts h = ap (run m w) (run_names ns w v ts h) ∙ h

  -- one more step
  pub run_then : (ns : List N) (base w v : W) (ts : List (Occurrence N F S)) (n : N) (f : F) → run m base ns ≡ Some (w, ts) → m.take w n ≡ Some (v, f) → run m base (ns ++ n ∷ []) ≡ Some (v, ts ++ taken w n f ∷ [])
  run_then ns base w v ts n f h k = subst (λ l. run m base l ≡ Some (v, ts ++ taken w n f ∷ [])) (names-append ts (taken w n f) ∙ ap (λ (l : List N). l ++ n ∷ []) (run_names ns base w ts h)) (run_more m base w v ts (taken w n f) (run_is ns base w ts h) (k, refl))
    where
      names-append : (xs : List (Occurrence N F S)) (t : Occurrence N F S) → names_of m (xs ++ t ∷ []) ≡ names_of m xs ++ t.step ∷ []
      names-append [] t = refl
      names-append (x ∷ xs) t = ap (λ (l : List N). x.step ∷ l) (names-append xs t)

  -- names left out
  pub names-without : (xs ts : List (Occurrence N F S)) → names_of m (without m xs ts) ≡ filter (λ n. not (list_any (λ x. m.is_same x n) (names_of m xs))) (names_of m ts)
  names-without xs [] = refl
  names-without xs (t ∷ ts) =
      let e = names-any xs t.step in
      by_bool (is_among m xs t) _
      (λ k. let j = sym e ∙ k in rw (k, j) (names-without xs ts))
      (λ k. let j = sym e ∙ k in rw (k, j) (ap (λ (l : List N). t.step ∷ l) (names-without xs ts)))
    where
      names-any : (ys : List (Occurrence N F S)) (n : N) → list_any (λ x. m.is_same x.step n) ys ≡ list_any (λ x. m.is_same x n) (names_of m ys)
      names-any [] n = refl
      names-any (y ∷ ys) n = rw (names-any ys n)

  -- the later steps that one pass forward doesn't mark
  abbrev pub unmarked : List (Occurrence N F S) → List (Occurrence N F S) → List (Occurrence N F S)
  unmarked marked [] = []
  unmarked marked (t ∷ ts) = cond (list_any (λ x. needs m x t) marked) (unmarked (marked ++ t ∷ []) ts) (t ∷ unmarked marked ts)

module _ {W N F S : Type 0} (m : Machine W N F S) (base : W) (names : HasNames m base) where
  once_of : (ns : List N) (v : W) (ts : List (Occurrence N F S)) → run m base ns ≡ Some (v, ts) → Once m base names ts
  once_of ns v ts h x y b = names.once ts v x y (run_is m ns base v ts h) b

  -- what comes after the step of a record at its place, by name
  pub after_record : (ns : List N) (v : W) (front back : List (Occurrence N F S)) (t : Occurrence N F S) → run m base ns ≡ Some (v, front ++ t ∷ back) → consequences m (front ++ t ∷ back) t.step ≡ t ∷ consequences_from m (t ∷ []) back
  after_record ns v front back t h = after_at m base names front back t (once_of ns v (front ++ t ∷ back) h)

  marked_out : (back marked out : List (Occurrence N F S)) → ((x y : Occurrence N F S) → In x out → In y back → m.is_same x.step y.step ≡ false) → ((x y : Occurrence N F S) → Before x y back → m.is_same x.step y.step ≡ false)
      → without m (out ++ consequences_from m marked back) back ≡ unmarked m marked back
  marked_out [] marked out apart once = refl
  marked_out (t ∷ back) marked out apart once =
      by_bool (list_any (λ x. needs m x t) marked) _
      (λ k. let mine : is_among m (out ++ t ∷ consequences_from m (marked ++ t ∷ []) back) t ≡ true = any_one (λ (x : Occurrence N F S). m.is_same x.step t.step) (out ++ t ∷ consequences_from m (marked ++ t ∷ []) back) t (here t out (consequences_from m (marked ++ t ∷ []) back)) (names.itself t.step) in
      let f : consequences_from m marked (t ∷ back) ≡ t ∷ consequences_from m (marked ++ t ∷ []) back = rw k refl in
      subst (λ (l : List (Occurrence N F S)). without m (out ++ l) (t ∷ back) ≡ unmarked m marked (t ∷ back)) (sym f)
      (rw (k, mine) (ap (λ (l : List (Occurrence N F S)). without m l back) (sym (append_assoc out (t ∷ []) (consequences_from m (marked ++ t ∷ []) back))) ∙ marked_out back (marked ++ t ∷ []) (out ++ t ∷ []) more (λ x y b. once x y (inr b)))))
      (λ k. let mine : is_among m (out ++ consequences_from m marked back) t ≡ false = none_any (λ (x : Occurrence N F S). m.is_same x.step t.step) (out ++ consequences_from m marked back) (λ x i. elim (In-split x out (consequences_from m marked back) i) [ inl j ↦ apart x t j (inl refl) | inr j ↦ not_backward m base names t.step x.step (once t x (inl (refl, consequences_from-in m marked back x j))) ]) in
      let f : consequences_from m marked (t ∷ back) ≡ consequences_from m marked back = rw k refl in
      subst (λ (l : List (Occurrence N F S)). without m (out ++ l) (t ∷ back) ≡ unmarked m marked (t ∷ back)) (sym f)
      (rw (k, mine) (ap (λ (l : List (Occurrence N F S)). t ∷ l) (marked_out back marked out (λ x y i j. apart x y i (inr j)) (λ x y b. once x y (inr b))))))
    where
      more : (x y : Occurrence N F S) → In x (out ++ t ∷ []) → In y back → m.is_same x.step y.step ≡ false
      more x y i j = elim (In-split x out (t ∷ []) i) [ inl k ↦ apart x y k (inr j) | inr k ↦ elim k [ inl e ↦ once x y (inl (e, j)) | inr n ↦ absurd n ] ]

  without_front : (front back out : List (Occurrence N F S)) → ((x y : Occurrence N F S) → In x out → In y front → m.is_same x.step y.step ≡ false) → without m out (front ++ back) ≡ front ++ without m out back
  without_front [] back out h = refl
  without_front (z ∷ front) back out h =
      let e : is_among m out z ≡ false = none_any (λ (x : Occurrence N F S). m.is_same x.step z.step) out (λ x i. h x z i (inl refl)) in
      rw e (ap (λ (l : List (Occurrence N F S)). z ∷ l) (without_front front back out (λ x y i j. h x y i (inr j))))

  -- what is left where the consequences of a record at its place go
  pub without_after : (front back : List (Occurrence N F S)) (t : Occurrence N F S) → Once m base names (front ++ t ∷ back) → without m (t ∷ consequences_from m (t ∷ []) back) (front ++ t ∷ back) ≡ front ++ unmarked m (t ∷ []) back
  without_after front back t once =
      without_front front (t ∷ back) (t ∷ consequences_from m (t ∷ []) back) (λ x y i j. not_backward m base names y.step x.step (once y x (Before-across y x front (t ∷ back) j (member x i))))
      ∙ ap (λ (l : List (Occurrence N F S)). front ++ l) (first ∙ marked_out back (t ∷ []) (t ∷ []) (λ x y i j. elim i [ inl e ↦ behind x y (inl (e, j)) | inr n ↦ absurd n ]) (λ x y b. behind x y (inr b)))
    where
      behind : (x y : Occurrence N F S) → Before x y (t ∷ back) → m.is_same x.step y.step ≡ false
      behind x y b = once x y (Before-back x y front (t ∷ back) b)

      member : (x : Occurrence N F S) → In x (t ∷ consequences_from m (t ∷ []) back) → In x (t ∷ back)
      member x (inl e) = inl e
      member x (inr i) = inr (consequences_from-in m (t ∷ []) back x i)

      first : without m (t ∷ consequences_from m (t ∷ []) back) (t ∷ back) ≡ without m (t ∷ consequences_from m (t ∷ []) back) back
      first = let e = names.itself t.step in rw e refl

  -- that no later record depends directly on one at its place, as a test tells it
  pub free_record : (front back : List (Occurrence N F S)) (t : Occurrence N F S) → Once m base names (front ++ t ∷ back) → list_any (needs m t) back ≡ false → IsMaximal m (front ++ t ∷ back) t
  free_record front back t once free = (here t front back, λ y b. any_none (needs m t) back free y (behind_place t y front back (never_twice m base names (front ++ t ∷ back) once) b))

  pub record_free : (front back : List (Occurrence N F S)) (t : Occurrence N F S) → IsMaximal m (front ++ t ∷ back) t → list_any (needs m t) back ≡ false
  record_free front back t free = none_any (needs m t) back (unneeded_behind m base names front back t free)

  -- one more undoing after a backward order, as a loop makes it
  pub allowed_then : (ts xs : List (Occurrence N F S)) (x : Occurrence N F S) → IsBackwardOrder m ts xs → IsMaximal m (without m xs ts) x → IsBackwardOrder m ts (xs ++ x ∷ [])
  allowed_then ts [] x a free = (subst (λ l. IsMaximal m l x) (without_none m base names ts) free, tt)
  allowed_then ts (z ∷ xs) x a free = (a.0, allowed_then (without m (z ∷ []) ts) xs x a.1 (subst (λ l. IsMaximal m l x) (sym (without_more m base names z xs ts)) free))

  pub undo_then : (v : W) (xs : List (Occurrence N F S)) (x : Occurrence N F S) → undo_each m v (xs ++ x ∷ []) ≡ undone m (undo_each m v xs) x
  undo_then v [] x = refl
  undo_then v (z ∷ xs) x = undo_then (undone m v z) xs x

  module _ (law : IsReversible m base) where
    -- a record that no later one needs goes, its name too, and its step is undone by it in the present world
    pub undo_record : (ns : List N) (v : W) (front back : List (Occurrence N F S)) (t : Occurrence N F S) → run m base ns ≡ Some (v, front ++ t ∷ back) → list_any (needs m t) back ≡ false
        → run m base (filter (λ n. not (m.is_same t.step n)) ns) ≡ Some (undone m v t, front ++ back)
    undo_record ns v front back t h free =
        let once = once_of ns v (front ++ t ∷ back) h in
        let r = (free_steps_undo m base law v front back t (run_is m ns base v (front ++ t ∷ back) h) (any_none (needs m t) back free)).0 in
        subst (λ l. run m base l ≡ Some (undone m v t, front ++ back))
        (ap (names_of m) (sym (without_one m base names front back t once)) ∙ names-without m (t ∷ []) (front ++ t ∷ back)
        ∙ ap (filter (λ n. not (m.is_same t.step n || false))) (run_names m ns base v (front ++ t ∷ back) h)
        ∙ filter-same (λ n. not (m.is_same t.step n || false)) (λ n. not (m.is_same t.step n)) ns (λ n i. ap not (or_false (m.is_same t.step n))))
        r
      where
        or_false : (b : Bool) → (b || false) ≡ b
        or_false true = refl
        or_false false = refl

    -- a record and all that one pass forward marks go, their names too, and they are undone latest first
    pub rollback_record : (ns : List N) (v : W) (front back : List (Occurrence N F S)) (t : Occurrence N F S) → run m base ns ≡ Some (v, front ++ t ∷ back)
        → run m base (filter (λ n. not (list_any (λ x. m.is_same x n) (names_of m (t ∷ consequences_from m (t ∷ []) back)))) ns)
        ≡ Some (undo_each m v (reverse (t ∷ consequences_from m (t ∷ []) back)), front ++ unmarked m (t ∷ []) back)
    rollback_record ns v front back t h =
        let once = once_of ns v (front ++ t ∷ back) h in
        let all = t ∷ consequences_from m (t ∷ []) back in
        let a = after_at m base names front back t once in
        let r = (after_undoes m base names law v (front ++ t ∷ back) t (run_is m ns base v (front ++ t ∷ back) h) (here t front back)).1 in
        let r' = rw a at r in
        let rest = without_after front back t once in
        subst (λ l. run m base l ≡ Some (undo_each m v (reverse all), front ++ unmarked m (t ∷ []) back))
        (names-without m all (front ++ t ∷ back) ∙ ap (filter (λ n. not (list_any (λ x. m.is_same x n) (names_of m all)))) (run_names m ns base v (front ++ t ∷ back) h))
        (r' ∙ ap (λ (l : List (Occurrence N F S)). Some (undo_each m v (reverse all), l)) rest)
