-- By the number of branches that are done before the first that is not, a branch is told to begin.
use Rattle.std.proofs.Common.{arith, zero, suc, ◌≡◌, ◌⊎◌, ◌<◌, ◌≤◌, ℕ, ◌+◌, ◌-◌, ◌==◌, Bool, true, false, ◌&&◌, ◌||◌, not, nat_le, nat_lt, inl, inr, List, [], ◌∷◌, ◌++◌, refl, sym, ap, ap₂, subst, ◌∙◌, Option, Some, None, length, take, IsSome, IsSomeAnd}
use Rattle.std.proofs.Math.Path.{fun_ext}
use Rattle.std.proofs.lemmas.Bool.{and_parts, eq-eqb, ne_eqb, cases_order, cases_eq}
use Rattle.std.proofs.lemmas.Bool.Decides.{nat_tests}
use Rattle.std.proofs.lemmas.List.{append-nil}
use Rattle.asl_frames.specs.declared.frame.Frame.{Frame}
use Rattle.branch_tree.specs.Bounds.{place_by, place_of, bound_in, any_below, in_window}
use Rattle.branch_tree.specs.FlatMap.{FrameMap}
use Rattle.branch_tree.specs.Leading.{leading_done, is_in_turn, done_at}
use Rattle.branch_tree.specs.Paths.{Path}
use Rattle.branch_tree.specs.Ready.{frame_is, is_done, may_begin, begins_under, bound_over}
use Rattle.branch_tree.specs.Tree.{Rows, flat, frame_at, branch_at}
use Rattle.branch_tree.proofs.Descent.{branch_is_there}
use Rattle.branch_tree.proofs.Flat.{at_node}
use Rattle.branch_tree.proofs.Progress.{by_bool, all_done}

-- ---- numbers below one

either : (a b : Bool) → (a || b) ≡ true → (a ≡ true) ⊎ (b ≡ true)
either true b h = inl refl
either false b h = inr h

pub any_found : (n : ℕ) (test : ℕ → Bool) → any_below n test ≡ true → (i : ℕ) × (i < n) × (test i ≡ true)
any_found zero test h = absurd (cc)
any_found (suc n) test h = elim (either (any_below n test) (test n) h) [
  | inl k ↦ (let f = any_found n test k in (f.0, omega (arith, f.1), f.2))
  | inr k ↦ (n, omega arith, k)
]

or_true : (a : Bool) → (a || true) ≡ true
or_true true = refl
or_true false = refl

pub any_at : (n : ℕ) (test : ℕ → Bool) (i : ℕ) → i < n → test i ≡ true → any_below n test ≡ true
any_at zero test i l h = absurd (omega (arith, l))
any_at (suc n) test i l h = elim (cases_order i n) [
  | inl e ↦ (let f : test n ≡ true = subst (λ j. test j ≡ true) e h in rw f (or_true (any_below n test)))
  | inr (inl less) ↦ rw (any_at n test i less h) refl
  | inr (inr more) ↦ absurd (omega (arith, l, more))
]

pub any_same : (n : ℕ) (a b : ℕ → Bool) → ((i : ℕ) → i < n → a i ≡ b i) → any_below n a ≡ any_below n b
any_same zero a b h = refl
any_same (suc n) a b h = ap₂ (λ x y. x || y) (any_same n a b (λ i l. h i (omega (arith, l)))) (h n (omega arith))

pub le_true : (a b : ℕ) → nat_le a b ≡ true → a ≤ b
le_true a b h = grind (arith, nat_tests, h)

pub le_is : (a b : ℕ) → a ≤ b → nat_le a b ≡ true
le_is a b h = grind (arith, nat_tests, h)

pub not_zero : (m : ℕ) → (m == 0) ≡ false → 0 < m
not_zero m h = grind (arith, nat_tests, h)

-- ---- the branches that are done before the first that is not

lead_done : (kids : List Rows) (i j : ℕ) → j < leading_done (take i kids) → done_at kids j ≡ true
lead_done kids zero j l = absurd (omega (arith, l))
lead_done [] (suc i) j l = absurd (omega (arith, l))
lead_done (kid ∷ kids) (suc i) zero l =
    by_bool (frame_is is_done (frame_at kid [])) _ (λ d. d) (λ d. let m = rw d at l in absurd (omega (arith, m)))
lead_done (kid ∷ kids) (suc i) (suc j) l =
    by_bool (frame_is is_done (frame_at kid [])) _ (λ d. let m = rw d at l in lead_done kids i j (omega (arith, m))) (λ d. let m = rw d at l in absurd (omega (arith, m)))

lead_stops : (kids : List Rows) (i : ℕ) → i ≤ length kids → leading_done (take i kids) < i → done_at kids (leading_done (take i kids)) ≡ false
lead_stops kids zero s l = absurd (omega (arith, l))
lead_stops [] (suc i) s l = absurd (omega (arith, s))
lead_stops (kid ∷ kids) (suc i) s l =
    by_bool (frame_is is_done (frame_at kid [])) _
    (λ d. let m = rw d at l in rw d (lead_stops kids i (omega (arith, s)) (omega (arith, m))))
    (λ d. rw d d)

pub lead_within : (kids : List Rows) (i : ℕ) → leading_done (take i kids) ≤ i
lead_within kids zero = omega arith
lead_within [] (suc i) = omega arith
lead_within (kid ∷ kids) (suc i) =
    by_bool (frame_is is_done (frame_at kid [])) _
    (λ d. let k = lead_within kids i in rw d (omega (arith, k)))
    (λ d. rw d (omega arith))

-- the window of a branch is told by that number
window_is : (kids : List Rows) (i bound : ℕ) → i ≤ length kids → not (in_window bound i (λ j. not (done_at kids j))) ≡ is_in_turn bound (leading_done (take i kids)) i
window_is kids i bound s =
    by_bool (bound == 0) _ (λ z. rw z refl)
    (λ z. by_bool (nat_lt (i - leading_done (take i kids)) bound) _
    (λ turn. by_bool (any_below i (λ j. nat_le (j + bound) i && not (done_at kids j))) _ (λ a. absurd (before z turn a)) (λ a. rw (z, turn, a) refl))
    (λ late. rw (z, late, found z late) refl))
  where
    before : (bound == 0) ≡ false → nat_lt (i - leading_done (take i kids)) bound ≡ true → any_below i (λ j. nat_le (j + bound) i && not (done_at kids j)) ≡ true → ⊥
    before z turn a =
        let f = any_found i (λ j. nat_le (j + bound) i && not (done_at kids j)) a in
        let g = and_parts (nat_le (f.0 + bound) i) (not (done_at kids f.0)) f.2 in
        let l = le_true (f.0 + bound) i g.0 in
        let t : i - leading_done (take i kids) < bound = grind (arith, nat_tests, turn) in
        let d : done_at kids f.0 ≡ true = lead_done kids i f.0 (omega (arith, l, t)) in
        let n = rw d at g.1 in
        cc

    found : (bound == 0) ≡ false → nat_lt (i - leading_done (take i kids)) bound ≡ false → any_below i (λ j. nat_le (j + bound) i && not (done_at kids j)) ≡ true
    found z late =
        let b = not_zero bound z in
        let w = lead_within kids i in
        let t : bound ≤ i - leading_done (take i kids) = grind (arith, nat_tests, late) in
        let stop : done_at kids (leading_done (take i kids)) ≡ false = lead_stops kids i s (omega (arith, t, b)) in
        let le : nat_le (leading_done (take i kids) + bound) i ≡ true = le_is (leading_done (take i kids) + bound) i (omega (arith, t, b, w)) in
        any_at i (λ j. nat_le (j + bound) i && not (done_at kids j)) (leading_done (take i kids)) (omega (arith, t, b)) (rw (le, stop) refl)

-- ---- of a node

own : (frame : Frame) (kids : List Rows) (j : ℕ) → frame_is is_done (frame_at (flat frame kids) ((frame.count, j) ∷ [])) ≡ done_at kids j
own frame kids j = ap (frame_is is_done) (at_node frame kids ((frame.count, j) ∷ []) ∙ rw (eq-eqb frame.count frame.count refl) refl)

pub node_begins : (frame : Frame) (kids : List Rows) (i : ℕ) → i ≤ length kids
    → is_in_turn (bound_in (Some frame)) (leading_done (take i kids)) i ≡ may_begin (frame_at (flat frame kids)) ([], (frame.count, i))
node_begins frame kids i s =
    sym (window_is kids i (bound_in (Some frame)) s)
    ∙ ap (λ (test : ℕ → Bool). not (in_window (bound_in (Some frame)) i test)) (fun_ext (λ j. ap not (sym (own frame kids j))))

some_unit : (o : Option Frame) → IsSome o → IsSomeAnd o (λ f. Unit {0})
some_unit None h = cc
some_unit (Some f) h = tt

there : (frame : Frame) (kids : List Rows) (v : Rows) (b : ℕ × ℕ) → flat frame kids ≡ v → IsSome (frame_at v (b ∷ [])) → (b.0 ≡ frame.count) × (b.1 < length kids)
there frame kids v b is h =
    let e : frame_at v (b ∷ []) ≡ branch_at frame.count kids b [] = rw (← is) (at_node frame kids (b ∷ [])) in
    branch_is_there frame.count kids b [] (λ f. Unit {0}) (subst (λ (o : Option Frame). IsSomeAnd o (λ f. Unit {0})) e (some_unit (frame_at v (b ∷ [])) h))

-- a branch that is there
pub branch_within : (frame : Frame) (kids : List Rows) (v : Rows) (b : ℕ × ℕ) → flat frame kids ≡ v → IsSome (frame_at v (b ∷ [])) → b.1 ≤ length kids
branch_within frame kids v b is h = let l = (there frame kids v b is h).1 in omega (arith, l)

pub branch_begins : (frame : Frame) (kids : List Rows) (v : Rows) (b : ℕ × ℕ) (bound leading : ℕ) → flat frame kids ≡ v → IsSome (frame_at v (b ∷ [])) → bound ≡ bound_in (frame_at v [])
    → leading ≡ leading_done (take b.1 kids) → is_in_turn bound leading b.1 ≡ may_begin (frame_at v) ([], b)
branch_begins frame kids v b bound leading is h e f =
    let t = there frame kids v b is h in
    let own_bound : bound ≡ bound_in (Some frame) = e ∙ ap (λ (w : Rows). bound_in (frame_at w [])) (sym is) in
    let place : ◌≡◌ {A = ℕ × ℕ} (frame.count, b.1) b = ap (λ n. (n, b.1)) (sym t.0) in
    ap₂ (λ m k. is_in_turn m k b.1) own_bound f ∙ node_begins frame kids b.1 (omega (arith, t.1))
    ∙ ap₂ (λ (w : Rows) (c : ℕ × ℕ). may_begin (frame_at w) ([], c)) is place

-- ---- of a tree

pub place_is : (p : Path) (b : ℕ × ℕ) → place_of (p ++ b ∷ []) ≡ Some (p, b)
place_is [] b = refl
place_is (c ∷ p) b = ap Some (by c p)
  where
    by : (c : ℕ × ℕ) (p : Path) → place_by c (p ++ b ∷ []) ≡ (c ∷ p, b)
    by c [] = refl
    by c (d ∷ p) = rw (by d p) refl

-- what a branch lets begin, the tree in which it stands does
pub begins_there : (frames over : FrameMap) (p : Path) (b : ℕ × ℕ) → ((q : Path) → frames (p ++ q) ≡ over q) → may_begin over ([], b) ≡ begins_under true frames (place_of (p ++ b ∷ []))
begins_there frames over p b h =
    rw (place_is p b) (ap₂ (λ (m : ℕ) (test : ℕ → Bool). not (in_window m b.1 test)) (ap bound_in root) (fun_ext (λ j. ap (λ o. not (frame_is is_done o)) (sym (h ((b.0, j) ∷ []))))))
  where
    root : over [] ≡ frames p
    root = sym (h []) ∙ ap frames (append-nil p)

pub begins_alone : (frames : FrameMap) (p : Path) (b : ℕ × ℕ) → ((q : Path) → frames (p ++ q) ≡ None) → true ≡ begins_under true frames (place_of (p ++ b ∷ []))
begins_alone frames p b h =
    let none : frames p ≡ None = ap frames (sym (append-nil p)) ∙ h [] in
    rw (place_is p b, none) refl

pub bound_there : (frames over : FrameMap) (p : Path) (b : ℕ × ℕ) → ((q : Path) → frames (p ++ q) ≡ over q) → bound_in (over []) ≡ bound_over frames (place_of (p ++ b ∷ []))
bound_there frames over p b h = rw (place_is p b) (ap bound_in (sym (h []) ∙ ap frames (append-nil p)))

pub bound_alone : (frames : FrameMap) (p : Path) (b : ℕ × ℕ) → ((q : Path) → frames (p ++ q) ≡ None) → 0 ≡ bound_over frames (place_of (p ++ b ∷ []))
bound_alone frames p b h =
    let none : frames p ≡ None = ap frames (sym (append-nil p)) ∙ h [] in
    rw (place_is p b, none) refl

-- ---- gone through in order

same_next : (a b : ℕ) → (suc a == suc b) ≡ (a == b)
same_next a b = elim (cases_eq a b) [
  | inl e ↦ rw (eq-eqb a b e, eq-eqb (suc a) (suc b) (ap suc e)) refl
  | inr ne ↦ rw (ne_eqb a b ne, ne_eqb (suc a) (suc b) (λ e. ne (omega (arith, e)))) refl
]

-- all are done where as many are
pub lead_all : (kids : List Rows) → (leading_done kids == length kids) ≡ all_done kids
lead_all [] = refl
lead_all (kid ∷ kids) =
    by_bool (frame_is is_done (frame_at kid [])) _ (λ d. rw (d, same_next (leading_done kids) (length kids)) (lead_all kids)) (λ d. rw d (ne_eqb 0 (suc (length kids)) (λ e. absurd (omega (arith, e)))))
