-- The first thread of a node is its own, or else that of the first branch that has one.
use Rattle.std.proofs.Common.{arith, zero, suc, ◌≡◌, ◌<◌, ◌≤◌, ℕ, ◌+◌, Bool, true, false, cond, not, ◌&&◌, ◌||◌, inl, inr, ◌==◌, List, [], ◌∷◌, ◌++◌, refl, sym, ap, ap₂, subst, ◌∙◌, Option, Some, None, is_some, length, get_or, append_assoc, length-append, IsSomeAnd, take}
use Rattle.std.specs.Prelude.{◌⊎◌}
use Rattle.std.proofs.Math.Path.{fun_ext}
use Rattle.std.specs.List.{slice_get}
use Rattle.std.specs.declared.cmp.Ordering.TheVariants.{Less, Equal, Greater}
use Rattle.std.specs.Ordering.{nat_cmp, ordering_then}
use Rattle.std.proofs.lemmas.Bool.{eq-eqb, ne_eqb, cases_order, cases_lt, cases_eq, le-ltb, lt-ltb}
use Rattle.std.proofs.lemmas.List.{append-nil}
use Rattle.std.proofs.lemmas.Option.{slice_get_past, slice_get-get_or, same_Some}
use Rattle.step_names.specs.Thread.{Thread, IsThread, child_of}
use Rattle.asl_frames.specs.declared.frame.Frame.{Frame}
use Rattle.asl_frames.specs.declared.frame.Phase.{Phase}
use Rattle.asl_frames.specs.declared.frame.Phase.TheVariants.{Ready, Parked, Done, Failed}
use Rattle.branch_tree.specs.Paths.{Path}
use Rattle.branch_tree.specs.declared.readiness.Readiness.{Readiness}
use Rattle.branch_tree.specs.declared.readiness.Readiness.TheVariants as readiness
use Rattle.branch_tree.specs.FlatMap.{FrameMap, IsTree, branch_count}
use Rattle.branch_tree.specs.Bounds.{place_of, bound_of}
use Rattle.branch_tree.specs.Leading.{leading_done, is_in_turn, done_at, failures}
use Rattle.branch_tree.specs.Ready.{root_readiness, readiness_of, readiness_under, readiness_in, begins_under, may_begin, progress, frame_is, is_done}
use Rattle.branch_tree.specs.First.{is_free_to_move, thread_under, path_cmp, is_free, IsFirstFree, NoneBeforePath, branch_from}
use Rattle.branch_tree.specs.Tree.{Rows, under, rows_from, flat, frame_at, branch_at, IsNode}
use Rattle.branch_tree.specs.Falls.{under_len}
use Rattle.branch_tree.proofs.Below.{nothing_under}
use Rattle.branch_tree.proofs.Counted.{lead_le, lead_knows, cut_short, fail_any}
use Rattle.branch_tree.proofs.Flat.{at_node}
use Rattle.branch_tree.proofs.Nodes.{branch_tree}
use Rattle.branch_tree.proofs.Progress.{not_parked, parked, failed_one, all_done}
use Rattle.branch_tree.proofs.Window.{lead_all, node_begins}

-- ---- the order of paths

same_fork : (fork i j : ℕ) (q p : Path) → path_cmp ((fork, i) ∷ q) ((fork, j) ∷ p) ≡ ordering_then (nat_cmp i j) (path_cmp q p)
same_fork fork i j q p = rw (le-ltb fork fork (omega arith), eq-eqb fork fork refl) refl

later_index : (fork i j : ℕ) (q p : Path) → j < i → path_cmp ((fork, i) ∷ q) ((fork, j) ∷ p) ≡ Less → ⊥
later_index fork i j q p l h =
    let e : path_cmp ((fork, i) ∷ q) ((fork, j) ∷ p) ≡ Greater = same_fork fork i j q p ∙ rw (le-ltb i j (omega arith), ne_eqb i j (λ f. absurd (omega arith))) refl in
    let f : Greater ≡ Less = sym e ∙ h in cc

same_index : (fork i : ℕ) (q p : Path) → path_cmp ((fork, i) ∷ q) ((fork, i) ∷ p) ≡ Less → path_cmp q p ≡ Less
same_index fork i q p h =
    let e : path_cmp ((fork, i) ∷ q) ((fork, i) ∷ p) ≡ path_cmp q p = same_fork fork i i q p ∙ rw (le-ltb i i (omega arith), eq-eqb i i refl) refl in
    sym e ∙ h

earlier_index : (fork i j : ℕ) (q p : Path) → i < j → path_cmp ((fork, i) ∷ q) ((fork, j) ∷ p) ≡ Less
earlier_index fork i j q p l = same_fork fork i j q p ∙ rw (lt-ltb i j l) refl

earlier_under : (fork i : ℕ) (q p : Path) → path_cmp q p ≡ Less → path_cmp ((fork, i) ∷ q) ((fork, i) ∷ p) ≡ Less
earlier_under fork i q p h = same_fork fork i i q p ∙ rw (le-ltb i i (omega arith), eq-eqb i i refl) h

pub none_before : (q : Path) → path_cmp q [] ≡ Less → ⊥
none_before [] h = let f : Equal ≡ Less = h in cc
none_before (b ∷ q) h = let f : Greater ≡ Less = h in cc

-- ---- the threads of one branch

own_map : (fork : ℕ) (kids : List Rows) (i : ℕ) (kid : Rows) → slice_get kids i ≡ Some kid → (q : Path) → branch_at fork kids (fork, i) q ≡ frame_at kid q
own_map fork kids i kid h q = rw (eq-eqb fork fork refl, h) refl

below_base : (base : Thread) (fork i : ℕ) (q : Path) → thread_under base ((fork, i) ∷ q) ≡ thread_under (child_of base fork i) q
below_base base fork i q = ap (λ (p : Path). record { exec = base.exec; path = p }) (sym (append_assoc base.path ((fork, i) ∷ []) q))

-- a thread under a branch begins as it does in what stands at and under that branch
begins_below : (root : Bool) (frames : FrameMap) (b : ℕ × ℕ) (q : Path) → begins_under root frames (place_of (b ∷ q)) ≡ begins_under (may_begin frames ([], b)) (λ r. frames (b ∷ r)) (place_of q)
begins_below root frames b [] = refl
begins_below root frames b (c ∷ q) = refl

-- ---- a thread that is done has nothing under it, and none that moves

done_readiness : (begins : Bool) (frames : FrameMap) (o : Option Frame) → frame_is is_done o ≡ true → is_free_to_move (readiness_of begins frames o) ≡ false
done_readiness begins frames None d = cc
done_readiness begins frames (Some f) d = by f.phase d
  where
    by : (p : Phase) → is_done p ≡ true → is_free_to_move (readiness_in begins frames f.count p) ≡ false
    by Ready d = cc
    by (Parked n bound) d = cc
    by (Done output) d = refl
    by (Failed fault) d = cc

done_kids : (p : Phase) → is_done p ≡ true → branch_count p ≡ 0
done_kids Ready d = cc
done_kids (Parked n bound) d = cc
done_kids (Done output) d = refl
done_kids (Failed fault) d = cc

no_kid : (frames : FrameMap) → IsTree frames → (o : Option Frame) → frames [] ≡ o → frame_is is_done o ≡ true → (b : ℕ × ℕ) → frames (b ∷ []) ≡ None
no_kid frames tree None e d b = cc
no_kid frames tree (Some f) e d b =
    is_none (frames (b ∷ [])) (tree.branches [] f e b ∙ rw (done_kids f.phase d, le-ltb b.1 0 (omega arith)) (neither (f.count == b.0)))
  where
    neither : (c : Bool) → (c && false) ≡ false
    neither true = refl
    neither false = refl

    is_none : (o : Option Frame) → is_some o ≡ false → o ≡ None
    is_none None h = refl
    is_none (Some g) h = cc

pub done_moves_not : (frames : FrameMap) → IsTree frames → frame_is is_done (frames []) ≡ true → (begins : Bool) (base : Thread) (passed : Thread → Bool) (p : Path) → is_free begins frames base passed p ≡ false
done_moves_not frames tree d begins base passed [] = rw (done_readiness (begins_under begins frames (place_of [])) frames (frames []) d) refl
done_moves_not frames tree d begins base passed (b ∷ p) =
    let none : frames (b ∷ (p ++ [])) ≡ None = nothing_under frames tree (b ∷ []) (p ++ []) (no_kid frames tree (frames []) refl d b) in
    rw none refl

module _ (root : Bool) (frame : Frame) (kids : List Rows) (base : Thread) (passed : Thread → Bool) where
  abbrev free : Path → Bool
  free = is_free root (frame_at (flat frame kids)) base passed

  -- whether the branch of this index may begin
  abbrev begins : ℕ → Bool
  begins i = may_begin (frame_at (flat frame kids)) ([], (frame.count, i))

  in_kid : (i : ℕ) (kid : Rows) → slice_get kids i ≡ Some kid → (q : Path) → free ((frame.count, i) ∷ q) ≡ is_free (begins i) (frame_at kid) (child_of base frame.count i) passed q
  in_kid i kid h q =
      let m : ◌≡◌ {A = FrameMap} (λ r. frame_at (flat frame kids) (((frame.count, i) ∷ q) ++ r)) (λ r. frame_at kid (q ++ r)) =
      fun_ext (λ r. at_node frame kids ((frame.count, i) ∷ (q ++ r)) ∙ own_map frame.count kids i kid h (q ++ r)) in
      let k : ◌≡◌ {A = FrameMap} (λ r. frame_at (flat frame kids) ((frame.count, i) ∷ r)) (frame_at kid) =
      fun_ext (λ r. at_node frame kids ((frame.count, i) ∷ r) ∙ own_map frame.count kids i kid h r) in
      let b : begins_under root (frame_at (flat frame kids)) (place_of ((frame.count, i) ∷ q)) ≡ begins_under (begins i) (frame_at kid) (place_of q) =
      begins_below root (frame_at (flat frame kids)) (frame.count, i) q ∙ ap (λ (n : FrameMap). begins_under (begins i) n (place_of q)) k in
      ap₂ (λ (c : Bool) (n : FrameMap). is_free_to_move (root_readiness c n) && not (passed (thread_under base ((frame.count, i) ∷ q)))) b m
      ∙ ap (λ (t : Thread). is_free_to_move (readiness_under (begins i) (frame_at kid) q) && not (passed t)) (below_base base frame.count i q)

  nowhere : (p : Path) → ((r : Path) → frame_at (flat frame kids) (p ++ r) ≡ None) → free p ≡ false
  nowhere p h =
      let c = begins_under root (frame_at (flat frame kids)) (place_of p) in
      let e : readiness_under root (frame_at (flat frame kids)) p ≡ readiness_of c (λ r. frame_at (flat frame kids) (p ++ r)) None =
      ap (readiness_of c (λ r. frame_at (flat frame kids) (p ++ r))) (h []) in
      rw e refl

  -- what is known of the first threads when the branches before the n-th have been gone through
  abbrev pub IsFirstOf : ℕ → Option Thread → Type 0
  IsFirstOf n None = (i : ℕ) (q : Path) → i < n → IsThread (thread_under base ((frame.count, i) ∷ q)) → free ((frame.count, i) ∷ q) ≡ false
  IsFirstOf n (Some t) =
      (i : ℕ) × (p : Path) × (t ≡ thread_under base ((frame.count, i) ∷ p)) × (free ((frame.count, i) ∷ p) ≡ true)
      × ((j : ℕ) (q : Path) → IsThread (thread_under base ((frame.count, j) ∷ q)) → path_cmp ((frame.count, j) ∷ q) ((frame.count, i) ∷ p) ≡ Less → free ((frame.count, j) ∷ q) ≡ false)

  pub first_of_none : IsFirstOf 0 None
  first_of_none i q h t = absurd (omega arith)

  pub first_of_next : (n : ℕ) (kid : Rows) (found : Option Thread) → slice_get kids n ≡ Some kid → IsFirstOf n None
      → IsFirstFree (begins n) (frame_at kid) (child_of base frame.count n) passed found → IsFirstOf (n + 1) found
  first_of_next n kid None h before here = λ i q l t. elim (cases_eq i n) [
    | inl e ↦ last i q e t
    | inr ne ↦ before i q (omega arith) t
  ]
    where
      last : (i : ℕ) (q : Path) → i ≡ n → IsThread (thread_under base ((frame.count, i) ∷ q)) → free ((frame.count, i) ∷ q) ≡ false
      last i q e t =
          subst (λ (k : ℕ). free ((frame.count, k) ∷ q) ≡ false) (sym e)
          (in_kid n kid h q ∙ here q (subst (λ (u : Thread). IsThread u) (below_base base frame.count n q) (subst (λ (k : ℕ). IsThread (thread_under base ((frame.count, k) ∷ q))) e t)))
  first_of_next n kid (Some t) h before here = (
    n,
    here.0,
    here.1 ∙ sym (below_base base frame.count n here.0),
    in_kid n kid h here.0 ∙ here.2,
    λ j q u less. elim (cases_order j n) [
      | inl e ↦ last j q e u less
      | inr (inl l) ↦ before j q l u
      | inr (inr l) ↦ absurd (later_index frame.count j n q here.0 l less)
    ],
  )
    where
      last : (j : ℕ) (q : Path) → j ≡ n → IsThread (thread_under base ((frame.count, j) ∷ q)) → path_cmp ((frame.count, j) ∷ q) ((frame.count, n) ∷ here.0) ≡ Less → free ((frame.count, j) ∷ q) ≡ false
      last j q e u less =
          subst (λ (k : ℕ). free ((frame.count, k) ∷ q) ≡ false) (sym e)
          (in_kid n kid h q ∙ here.3 q (subst (λ (v : Thread). IsThread v) (below_base base frame.count n q) (subst (λ (k : ℕ). IsThread (thread_under base ((frame.count, k) ∷ q))) e u))
          (same_index frame.count n q here.0 (subst (λ (k : ℕ). path_cmp ((frame.count, k) ∷ q) ((frame.count, n) ∷ here.0) ≡ Less) e less)))

  pub first_of_step : (n : ℕ) (kid : Rows) (in_turn : Bool) (found : Option Thread) → n < length kids → kid ≡ get_or kids n kid → in_turn ≡ begins n → IsFirstOf n None
      → IsFirstFree in_turn (frame_at kid) (child_of base frame.count n) passed found → IsFirstOf (n + 1) found
  first_of_step n kid in_turn found l k b h m =
      first_of_next n kid found (slice_get-get_or kids n kid l ∙ ap Some (sym k)) h (subst (λ (c : Bool). IsFirstFree c (frame_at kid) (child_of base frame.count n) passed found) b m)

  -- of the branches that are done none has a thread that moves
  pub first_of_leading : IsNode frame kids → IsFirstOf (leading_done kids) None
  first_of_leading node i q l t =
      let m = lead_le kids in
      let e : slice_get kids i ≡ Some (get_or kids i []) = slice_get-get_or kids i [] (omega (arith, l, m)) in
      let k : done_at kids i ≡ true = lead_knows kids i l in
      let d : frame_is is_done (frame_at (get_or kids i []) []) ≡ true = rw e at k in
      in_kid i (get_or kids i []) e q ∙ done_moves_not (frame_at (get_or kids i [])) (branch_tree kids i (get_or kids i []) node.trees e) d (begins i) (child_of base frame.count i) passed q

  -- ---- from a path on

  -- the path is of the fork, and begins at this branch; or the search begins at the first
  begins_at : (number index : ℕ) (rest : Path) (first : ℕ) (under : Path) → branch_from frame.count ((number, index) ∷ rest) ≡ (first, under)
      → ((number ≡ frame.count) × (index ≡ first) × (rest ≡ under)) ⊎ ((0 ≡ first) × ([] ≡ under))
  begins_at number index rest first under e = elim (cases_eq number frame.count) [
    | inl same ↦ (let k : ◌≡◌ {A = ℕ × Path} (index, rest) (first, under) = rw (eq-eqb number frame.count same) at e in
        inl (same, ap (λ (p : ℕ × Path). p.0) k, ap (λ (p : ℕ × Path). p.1) k))
    | inr ne ↦ (let k : ◌≡◌ {A = ℕ × Path} (0, []) (first, under) = rw (ne_eqb number frame.count ne) at e in
        inr (ap (λ (p : ℕ × Path). p.0) k, ap (λ (p : ℕ × Path). p.1) k))
  ]

  -- nothing is free in the branches before that one
  none_in_earlier : (from : Path) (first : ℕ) (under : Path) → branch_from frame.count from ≡ (first, under)
      → NoneBeforePath root (frame_at (flat frame kids)) base passed from → IsFirstOf first None
  none_in_earlier [] first under e none i q l t = let k : 0 ≡ first = ap (λ (p : ℕ × Path). p.0) e in absurd (omega (arith, k, l))
  none_in_earlier (b ∷ rest) first under e none i q l t = elim (begins_at b.0 b.1 rest first under e) [
    | inl at ↦ none ((frame.count, i) ∷ q) t
        (subst (λ (number : ℕ). path_cmp ((frame.count, i) ∷ q) ((number, b.1) ∷ rest) ≡ Less) (sym at.0)
        (earlier_index frame.count i b.1 q rest (let same = at.1 in omega (arith, same, l))))
    | inr at ↦ (let none = at.0 in absurd (omega (arith, none, l)))
  ]

  -- nor before the path in the branch itself
  none_in_first : (from : Path) (first : ℕ) (under : Path) → branch_from frame.count from ≡ (first, under)
      → NoneBeforePath root (frame_at (flat frame kids)) base passed from → (kid : Rows) → slice_get kids first ≡ Some kid
      → NoneBeforePath (begins first) (frame_at kid) (child_of base frame.count first) passed under
  none_in_first [] first under e none kid h q t less =
      absurd (none_before q (subst (λ (p : Path). path_cmp q p ≡ Less) (sym (ap (λ (p : ℕ × Path). p.1) e)) less))
  none_in_first (b ∷ rest) first under e none kid h q t less = elim (begins_at b.0 b.1 rest first under e) [
    | inl at ↦ (let further : path_cmp q rest ≡ Less = subst (λ (p : Path). path_cmp q p ≡ Less) (sym at.2) less in
        let here : path_cmp ((frame.count, first) ∷ q) ((frame.count, first) ∷ rest) ≡ Less = earlier_under frame.count first q rest further in
        let it : path_cmp ((frame.count, first) ∷ q) ((b.0, first) ∷ rest) ≡ Less = subst (λ (number : ℕ). path_cmp ((frame.count, first) ∷ q) ((number, first) ∷ rest) ≡ Less) (sym at.0) here in
        let all : path_cmp ((frame.count, first) ∷ q) ((b.0, b.1) ∷ rest) ≡ Less = subst (λ (i : ℕ). path_cmp ((frame.count, first) ∷ q) ((b.0, i) ∷ rest) ≡ Less) (sym at.1) it in
        sym (in_kid first kid h q) ∙ none ((frame.count, first) ∷ q) (subst (λ (u : Thread). IsThread u) (sym (below_base base frame.count first q)) t) all)
    | inr at ↦ absurd (none_before q (subst (λ (p : Path). path_cmp q p ≡ Less) (sym at.1) less))
  ]

  -- what is known when the search begins at the greater of two branches
  pub first_from : (v : Rows) → flat frame kids ≡ v → IsNode frame kids → (from : Path) (first : ℕ) (under : Path) → branch_from frame.count from ≡ (first, under)
      → NoneBeforePath root (frame_at v) base passed from → (start : ℕ) → (start ≡ leading_done kids) ⊎ (start ≡ first) → IsFirstOf start None
  first_from v is node from first under e none start (inl leads) = subst (λ (n : ℕ). IsFirstOf n None) (sym leads) (first_of_leading node)
  first_from v is node from first under e none start (inr begins) =
      subst (λ (n : ℕ). IsFirstOf n None) (sym begins)
      (none_in_earlier from first under e (subst (λ (w : Rows). NoneBeforePath root (frame_at w) base passed from) (sym is) none))

  -- of a branch nothing before the path that is left under it
  pub none_in_kid : (v : Rows) → flat frame kids ≡ v → (from : Path) (first : ℕ) (under : Path) → branch_from frame.count from ≡ (first, under)
      → NoneBeforePath root (frame_at v) base passed from → (n : ℕ) (kid : Rows) → n < length kids → kid ≡ get_or kids n kid → (in_turn : Bool) → in_turn ≡ begins n
      → (left : Path) → ((n ≡ first) × (left ≡ under)) ⊎ (left ≡ []) → NoneBeforePath in_turn (frame_at kid) (child_of base frame.count n) passed left
  none_in_kid v is from first under e none n kid l k in_turn b left (inl at) =
      let there : slice_get kids first ≡ Some kid = subst (λ (i : ℕ). slice_get kids i ≡ Some kid) at.0 (slice_get-get_or kids n kid l ∙ ap Some (sym k)) in
      let in_first : NoneBeforePath (begins first) (frame_at kid) (child_of base frame.count first) passed under =
      none_in_first from first under e (subst (λ (w : Rows). NoneBeforePath root (frame_at w) base passed from) (sym is) none) kid there in
      let in_it : NoneBeforePath (begins n) (frame_at kid) (child_of base frame.count n) passed under =
      subst (λ (i : ℕ). NoneBeforePath (begins i) (frame_at kid) (child_of base frame.count i) passed under) (sym at.0) in_first in
      subst (λ (p : Path). NoneBeforePath in_turn (frame_at kid) (child_of base frame.count n) passed p) (sym at.1)
      (subst (λ (c : Bool). NoneBeforePath c (frame_at kid) (child_of base frame.count n) passed under) (sym b) in_it)
  none_in_kid v is from first under e none n kid l k in_turn b left (inr all) = λ q t less. absurd (none_before q (subst (λ (p : Path). path_cmp q p ≡ Less) all less))

  branch_elsewhere : (b : ℕ × ℕ) (q : Path) → (frame.count ≡ b.0 → ⊥) → free (b ∷ q) ≡ false
  branch_elsewhere b q h =
      nowhere (b ∷ q) (λ r. at_node frame kids (b ∷ (q ++ r)) ∙ rw (ne_eqb frame.count b.0 h) refl)

  branch_past : (i : ℕ) (q : Path) → length kids ≤ i → free ((frame.count, i) ∷ q) ≡ false
  branch_past i q h =
      nowhere ((frame.count, i) ∷ q) (λ r. at_node frame kids ((frame.count, i) ∷ (q ++ r)) ∙ rw (eq-eqb frame.count frame.count refl, slice_get_past kids i h) refl)

  -- a branch of the node's own fork, or of another that is not there
  by_fork : (P : ℕ × ℕ → Type 0) (b : ℕ × ℕ) → ((i : ℕ) → P (frame.count, i)) → ((frame.count ≡ b.0 → ⊥) → P b) → P b
  by_fork P b own other = elim (cases_eq frame.count b.0) [
    | inl e ↦ (let f : ◌≡◌ {A = ℕ × ℕ} (frame.count, b.1) (b.0, b.1) = rw e refl in subst P f (own b.1))
    | inr ne ↦ other ne
  ]

  none_at_all : free [] ≡ false → IsFirstOf (length kids) None → (q : Path) → IsThread (thread_under base q) → free q ≡ false
  none_at_all here below [] t = here
  none_at_all here below (b ∷ q) t =
      by_fork (λ b. IsThread (thread_under base (b ∷ q)) → free (b ∷ q) ≡ false) b
      (λ i u. elim (cases_lt i (length kids)) [ inl l ↦ below i q l u | inr l ↦ branch_past i q l ]) (λ ne u. branch_elsewhere b q ne) t

  none_earlier : (n : ℕ) (t : Thread) → free [] ≡ false → (below : IsFirstOf n (Some t))
      → (q : Path) → IsThread (thread_under base q) → path_cmp q ((frame.count, below.0) ∷ below.1) ≡ Less → free q ≡ false
  none_earlier n t here below [] u less = here
  none_earlier n t here below (b ∷ q) u less =
      by_fork (λ b. IsThread (thread_under base (b ∷ q)) → path_cmp (b ∷ q) ((frame.count, below.0) ∷ below.1) ≡ Less → free (b ∷ q) ≡ false) b
      (λ i v l. below.4 i q v l) (λ ne v l. branch_elsewhere b q ne) u less

  first_of_flat : (found : Option Thread) → free [] ≡ false → IsFirstOf (length kids) found → IsFirstFree root (frame_at (flat frame kids)) base passed found
  first_of_flat None here below = none_at_all here below
  first_of_flat (Some t) here below = ((frame.count, below.0) ∷ below.1, below.2, below.3, none_earlier (length kids) t here below)

  -- at a node seen as v
  pub first_of_all : (v : Rows) → flat frame kids ≡ v → (found : Option Thread) → is_free root (frame_at v) base passed [] ≡ false → IsFirstOf (length kids) found → IsFirstFree root (frame_at v) base passed found
  first_of_all v is found =
      subst (λ (w : Rows). is_free root (frame_at w) base passed [] ≡ false → IsFirstOf (length kids) found → IsFirstFree root (frame_at w) base passed found) is (first_of_flat found)

-- the thread itself comes before all under it
pub first_here : (root : Bool) (frames : FrameMap) (base : Thread) (passed : Thread → Bool) → is_free root frames base passed [] ≡ true → IsFirstFree root frames base passed (Some base)
first_here root frames base passed h =
    ([], ap (λ (p : Path). record { exec = base.exec; path = p }) (sym (append-nil base.path)), h, λ q t less. absurd (none_before q less))

-- ---- whether the thread of a node is free

base_itself : (base : Thread) → thread_under base [] ≡ base
base_itself base = ap (λ (p : Path). record { exec = base.exec; path = p }) (append-nil base.path)

pub root_free : (root : Bool) (frames : FrameMap) (base : Thread) (passed : Thread → Bool) (r : Readiness) → root_readiness root frames ≡ r → is_free root frames base passed [] ≡ (is_free_to_move r && not (passed base))
root_free root frames base passed r h = rw (base_itself base, h) refl

module _ (root : Bool) (frame : Frame) (kids : List Rows) (v : Rows) (is : flat frame kids ≡ v) (node : IsNode frame kids) (base : Thread) (passed : Thread → Bool) where
  no_kids : branch_count frame.phase ≡ 0 → IsFirstOf root frame kids base passed (length kids) None
  no_kids h = λ i q l t. absurd (omega (arith, node.counted))

  -- a thread that ended
  pub first_of_ended : (p : Phase) → frame.phase ≡ p → branch_count p ≡ 0 → is_free_to_move (readiness_in root (frame_at v) frame.count p) ≡ false → IsFirstFree root (frame_at v) base passed None
  first_of_ended p e none still =
      first_of_all root frame kids base passed v is None
      (root_free root (frame_at v) base passed _ (sym (not_parked root frame kids v p is e)) ∙ rw still refl)
      (no_kids (ap branch_count e ∙ none))

  -- a thread that is ready, and passed by or not
  pub first_of_passed : frame.phase ≡ Ready → ((frame.count == 0 && not root) || passed base) ≡ true → IsFirstFree root (frame_at v) base passed None
  first_of_passed e h =
      first_of_all root frame kids base passed v is None
      (root_free root (frame_at v) base passed _ (sym (not_parked root frame kids v Ready is e)) ∙ still (frame.count == 0 && not root) (passed base) h)
      (no_kids (ap branch_count e))
    where
      still : (waits out : Bool) → (waits || out) ≡ true → (is_free_to_move (cond waits readiness.Waiting readiness.Ready) && not out) ≡ false
      still true true h = refl
      still true false h = refl
      still false true h = refl
      still false false h = cc

  pub first_of_ready : frame.phase ≡ Ready → ((frame.count == 0 && not root) || passed base) ≡ false → IsFirstFree root (frame_at v) base passed (Some base)
  first_of_ready e h =
      first_here root (frame_at v) base passed (root_free root (frame_at v) base passed _ (sym (not_parked root frame kids v Ready is e)) ∙ goes (frame.count == 0 && not root) (passed base) h)
    where
      goes : (waits out : Bool) → (waits || out) ≡ false → (is_free_to_move (cond waits readiness.Waiting readiness.Ready) && not out) ≡ true
      goes true out h = cc
      goes false true h = cc
      goes false false h = refl

  -- a thread that is parked
  parked_free : (n bound : ℕ) → frame.phase ≡ Parked n bound → is_free root (frame_at v) base passed [] ≡ ((failed_one kids || all_done kids) && not (passed base))
  parked_free n bound e =
      root_free root (frame_at v) base passed _ (sym (parked root frame kids v n bound is node e)) ∙ ap (λ (b : Bool). b && not (passed base)) (moves (failed_one kids) (all_done kids))
    where
      moves : (failed done : Bool) → is_free_to_move (progress failed done) ≡ (failed || done)
      moves true done = refl
      moves false true = refl
      moves false false = refl

  pub first_of_parked : (n bound : ℕ) → frame.phase ≡ Parked n bound → ((failed_one kids || all_done kids) && not (passed base)) ≡ true → IsFirstFree root (frame_at v) base passed (Some base)
  first_of_parked n bound e h = first_here root (frame_at v) base passed (parked_free n bound e ∙ h)

  pub first_under_parked : (n bound : ℕ) (found : Option Thread) → frame.phase ≡ Parked n bound → ((failed_one kids || all_done kids) && not (passed base)) ≡ false
      → IsFirstOf root frame kids base passed (length kids) found → IsFirstFree root (frame_at v) base passed found
  first_under_parked n bound found e h below = first_of_all root frame kids base passed v is found (parked_free n bound e ∙ h) below

-- ---- a branch has fewer rows than the node above it

kid_rows : (fork i j : ℕ) (kids : List Rows) (kid : Rows) → slice_get kids j ≡ Some kid → length kid ≤ length (rows_from fork i kids)
kid_rows fork i j [] kid h = cc
kid_rows fork i zero (k ∷ ks) kid h =
    let e : length k ≡ length kid = ap length (same_Some k kid h) in
    omega (arith, length-append (under (fork, i) k) (rows_from fork (i + 1) ks), under_len (fork, i) k)
kid_rows fork i (suc j) (k ∷ ks) kid h =
    omega (arith, length-append (under (fork, i) k) (rows_from fork (i + 1) ks), kid_rows fork (i + 1) j ks kid h)

pub kid_is_smaller : (frame : Frame) (kids : List Rows) (v : Rows) (i : ℕ) (kid : Rows) → flat frame kids ≡ v → i < length kids → kid ≡ get_or kids i kid → length kid < length v
kid_is_smaller frame kids v i kid is l k =
    let e : slice_get kids i ≡ Some kid = slice_get-get_or kids i kid l ∙ ap Some (sym k) in
    let n : length (flat frame kids) ≡ length v = ap length is in
    omega (arith, kid_rows frame.count 0 i kids kid e)

-- ---- a fork

pub none_of : (found : Option Thread) → is_some found ≡ false → found ≡ None
none_of None h = refl
none_of (Some t) h = cc

pub parked_at : (frame : Frame) (kids : List Rows) (v : Rows) (n bound : ℕ) → flat frame kids ≡ v → IsSomeAnd (frame_at v []) (λ f. f.phase ≡ Parked n bound) → frame.phase ≡ Parked n bound
parked_at frame kids v n bound is h = subst (λ (w : Rows). IsSomeAnd (frame_at w []) (λ f. f.phase ≡ Parked n bound)) (sym is) h

-- a branch that is not before those that lead is told to begin by their number
pub next_in_turn : (frame : Frame) (kids : List Rows) (n bound i leading : ℕ) (in_turn : Bool) → frame.phase ≡ Parked n bound → i < length kids → leading ≡ leading_done kids → leading ≤ i
    → in_turn ≡ is_in_turn bound leading i → in_turn ≡ may_begin (frame_at (flat frame kids)) ([], (frame.count, i))
next_in_turn frame kids n bound i leading in_turn e l f more h =
    let same : bound_of (Parked n bound) ≡ bound_of frame.phase = ap bound_of (sym e) in
    let cut : leading ≡ leading_done (take i kids) = f ∙ sym (cut_short kids i (omega (arith, f, more))) in
    h ∙ ap₂ (λ m k. is_in_turn m k i) same cut ∙ node_begins frame kids i (omega (arith, l))

module _ (root : Bool) (frame : Frame) (kids : List Rows) (v : Rows) (is : flat frame kids ≡ v) (node : IsNode frame kids) (base : Thread) (passed : Thread → Bool) (n bound : ℕ) (parked : frame.phase ≡ Parked n bound)
    (leading many failed : ℕ) (leads : leading ≡ leading_done kids) (counted : many ≡ length kids) (fails : failed ≡ failures kids) where
  moves_is : (not (failed == 0) || (leading == many)) ≡ (failed_one kids || all_done kids)
  moves_is =
      let f : not (failed == 0) ≡ failed_one kids = ap (λ (m : ℕ). not (m == 0)) fails ∙ fail_any kids in
      let d : (leading == many) ≡ all_done kids = ap₂ (λ k l. k == l) leads counted ∙ lead_all kids in
      ap₂ (λ a b. a || b) f d

  pub fork_itself : (first : Thread) → ((not (failed == 0) || (leading == many)) && not (passed base)) ≡ true → first ≡ base → IsFirstFree root (frame_at v) base passed (Some first)
  fork_itself first h e =
      subst (λ (t : Thread). IsFirstFree root (frame_at v) base passed (Some t)) (sym e) (first_of_parked root frame kids v is node base passed n bound parked (ap (λ c. c && not (passed base)) (sym moves_is) ∙ h))

  still : ((not (failed == 0) || (leading == many)) && not (passed base)) ≡ false → ((failed_one kids || all_done kids) && not (passed base)) ≡ false
  still h = ap (λ c. c && not (passed base)) (sym moves_is) ∙ h

  -- the first of a branch, where none before it has one
  pub fork_found : (i : ℕ) (found : Option Thread) → ((not (failed == 0) || (leading == many)) && not (passed base)) ≡ false → is_some found ≡ true
      → IsFirstOf root frame kids base passed i found → IsFirstFree root (frame_at v) base passed found
  fork_found i None h s below = cc
  fork_found i (Some t) h s below = first_under_parked root frame kids v is node base passed n bound (Some t) parked (still h) below

  pub fork_none : (i : ℕ) → ((not (failed == 0) || (leading == many)) && not (passed base)) ≡ false → length kids ≤ i → IsFirstOf root frame kids base passed i None → IsFirstFree root (frame_at v) base passed None
  fork_none i h past below =
      first_under_parked root frame kids v is node base passed n bound None parked (still h) (λ j q l t. below j q (omega (arith, l, past)) t)

pub begun : (start leading first leads : ℕ) → leading ≡ leads → (start ≡ leading) ⊎ (start ≡ first) → (start ≡ leads) ⊎ (start ≡ first)
begun start leading first leads e (inl h) = inl (h ∙ e)
begun start leading first leads e (inr h) = inr h
