-- The branches of a node, gone through in order, are the branches of its flat map.
use Rattle.std.proofs.Common.{arith, suc, ◌≡◌, ℕ, ◌+◌, ◌==◌, Bool, true, false, ◌&&◌, not, List, [], ◌∷◌, ◌++◌, refl, sym, ap, ap₂, subst, ◌∙◌, Option, Some, None, length}
use Rattle.std.proofs.Math.Path.{fun_ext}
use Rattle.std.specs.List.{slice_get, list_any, list_all, range_with_len}
use Rattle.std.proofs.lemmas.Bool.{eq-eqb, and_parts}
use Rattle.asl_frames.specs.declared.frame.Frame.{Frame}
use Rattle.asl_frames.specs.declared.frame.Phase.{Phase}
use Rattle.asl_frames.specs.declared.frame.Phase.TheVariants.{Ready, Parked, Done, Failed}
use Rattle.branch_tree.specs.Paths.{Path}
use Rattle.branch_tree.specs.FlatMap.{FrameMap, branch_count}
use Rattle.branch_tree.specs.declared.readiness.Readiness.TheVariants.{Waiting}
use Rattle.branch_tree.specs.Bounds.{place_of}
use Rattle.branch_tree.specs.Ready.{readiness_in, readiness_at, root_readiness, readiness_of, begins_under, frame_is, is_done, has_failed, is_ready, is_unmoved, progress}
use Rattle.branch_tree.specs.Tree.{Rows, flat, frame_at, IsNode}
use Rattle.branch_tree.proofs.Flat.{at_node}

pub by_bool : (b : Bool) (P : Type 0) → (b ≡ true → P) → (b ≡ false → P) → P
by_bool true P = λ yes no. yes refl
by_bool false P = λ yes no. no refl

module _ (test : Option Frame → Bool) (at : ℕ → Option Frame) where
  any_of : (kids : List Rows) (i : ℕ) → ((j : ℕ) (kid : Rows) → slice_get kids j ≡ Some kid → at (i + j) ≡ frame_at kid [])
      → list_any (λ k. test (at k)) (range_with_len i (length kids)) ≡ list_any (λ k. test (frame_at k [])) kids
  any_of [] i h = refl
  any_of (kid ∷ kids) i h =
      let e : at i ≡ frame_at kid [] = (let z : i ≡ i + 0 = omega arith in ap at z ∙ h 0 kid refl) in
      rw (e, any_of kids (i + 1) (λ j k f. (let z : i + 1 + j ≡ i + suc j = omega arith in ap at z ∙ h (suc j) k f))) refl

  all_of : (kids : List Rows) (i : ℕ) → ((j : ℕ) (kid : Rows) → slice_get kids j ≡ Some kid → at (i + j) ≡ frame_at kid [])
      → list_all (λ k. test (at k)) (range_with_len i (length kids)) ≡ list_all (λ k. test (frame_at k [])) kids
  all_of [] i h = refl
  all_of (kid ∷ kids) i h =
      let e : at i ≡ frame_at kid [] = (let z : i ≡ i + 0 = omega arith in ap at z ∙ h 0 kid refl) in
      rw (e, all_of kids (i + 1) (λ j k f. (let z : i + 1 + j ≡ i + suc j = omega arith in ap at z ∙ h (suc j) k f))) refl

own_branch : (frame : Frame) (kids : List Rows) (j : ℕ) (kid : Rows) → slice_get kids j ≡ Some kid → frame_at (flat frame kids) ((frame.count, 0 + j) ∷ []) ≡ frame_at kid []
own_branch frame kids j kid h =
    let z : 0 + j ≡ j = omega arith in
    rw z (at_node frame kids ((frame.count, j) ∷ []) ∙ rw (eq-eqb frame.count frame.count refl, h) refl)

both : (a b c d : Bool) → a ≡ c → b ≡ d → progress a b ≡ progress c d
both a b c d e f = rw (e, f) refl

abbrev pub failed_one : List Rows → Bool
failed_one kids = list_any (λ k. frame_is has_failed (frame_at k [])) kids

abbrev pub all_done : List Rows → Bool
all_done kids = list_all (λ k. frame_is is_done (frame_at k [])) kids

by_branches : (begins : Bool) (frame : Frame) (kids : List Rows) (bound : ℕ)
    → progress (failed_one kids) (all_done kids) ≡ readiness_in begins (frame_at (flat frame kids)) frame.count (Parked (length kids) bound)
by_branches begins frame kids bound =
    both (failed_one kids) (all_done kids) _ _
    (sym (any_of (frame_is has_failed) (λ i. frame_at (flat frame kids) ((frame.count, i) ∷ [])) kids 0 (own_branch frame kids)))
    (sym (all_of (frame_is is_done) (λ i. frame_at (flat frame kids) ((frame.count, i) ∷ [])) kids 0 (own_branch frame kids)))

-- what a node can do, by its phase
node_readiness : (begins : Bool) (frame : Frame) (kids : List Rows) (v : Rows) (p : Phase) → flat frame kids ≡ v → frame.phase ≡ p
    → readiness_in begins (frame_at v) frame.count p ≡ root_readiness begins (frame_at v)
node_readiness begins frame kids v p is e =
    subst (λ (w : Rows). readiness_in begins (frame_at w) frame.count p ≡ root_readiness begins (frame_at w)) is
    (ap (readiness_in begins (frame_at (flat frame kids)) frame.count) (sym e))

pub parked : (begins : Bool) (frame : Frame) (kids : List Rows) (v : Rows) (n bound : ℕ) → flat frame kids ≡ v → IsNode frame kids → frame.phase ≡ Parked n bound
    → progress (failed_one kids) (all_done kids) ≡ root_readiness begins (frame_at v)
parked begins frame kids v n bound is node e =
    let l : Parked (length kids) bound ≡ Parked n bound = ap (λ (m : ℕ). Parked m bound) (node.counted ∙ ap branch_count e) in
    by_branches begins frame kids bound
    ∙ ap (readiness_in begins (frame_at (flat frame kids)) frame.count) l
    ∙ node_readiness begins frame kids (flat frame kids) (Parked n bound) refl e
    ∙ ap (λ (w : Rows). root_readiness begins (frame_at w)) is

pub not_parked : (begins : Bool) (frame : Frame) (kids : List Rows) (v : Rows) (p : Phase) → flat frame kids ≡ v → frame.phase ≡ p
    → readiness_in begins (frame_at v) frame.count p ≡ root_readiness begins (frame_at v)
not_parked = node_readiness

-- a thread's readiness is that of the root of its branch
pub readiness_below : (frames branch : FrameMap) (p : Path) → ((q : Path) → frames (p ++ q) ≡ branch q) → (begins : Bool) → begins_under true frames (place_of p) ≡ begins
    → root_readiness begins branch ≡ readiness_at frames p
readiness_below frames branch p h begins b = let e : branch ≡ (λ q. frames (p ++ q)) = fun_ext (λ q. sym (h q)) in ap₂ root_readiness (sym b) e

pub nothing_at : (frames : FrameMap) (p : Path) → ((q : Path) → frames (p ++ q) ≡ None) → readiness_of true frames None ≡ readiness_at frames p
nothing_at frames p h = let e : frames (p ++ []) ≡ None = h [] in rw e refl

-- ---- a thread that has made no move

-- where it may not begin it waits, and any other stands as where it may
pub waits : (frames : FrameMap) → is_unmoved (frames []) ≡ true → Waiting ≡ root_readiness false frames
waits frames h = by (frames []) h
  where
    by : (o : Option Frame) → is_unmoved o ≡ true → Waiting ≡ readiness_of false frames o
    by None h = cc
    by (Some f) h = by_phase f.phase refl (and_parts (is_ready f.phase) (f.count == 0) h)
      where
        by_phase : (p : Phase) → f.phase ≡ p → (is_ready f.phase ≡ true) × ((f.count == 0) ≡ true) → Waiting ≡ readiness_in false frames f.count f.phase
        by_phase Ready e k = let z = k.1 in rw (e, z) refl
        by_phase (Parked n bound) e k = let z = k.0 in let clash = rw e at z in cc
        by_phase (Done output) e k = let z = k.0 in let clash = rw e at z in cc
        by_phase (Failed fault) e k = let z = k.0 in let clash = rw e at z in cc

pub moved : (frames : FrameMap) (begins : Bool) → (is_unmoved (frames []) && not begins) ≡ false → root_readiness true frames ≡ root_readiness begins frames
moved frames true h = refl
moved frames false h = by (frames []) h
  where
    by : (o : Option Frame) → (is_unmoved o && true) ≡ false → readiness_of true frames o ≡ readiness_of false frames o
    by None h = refl
    by (Some f) h = by_phase f.phase refl
      where
        by_phase : (p : Phase) → f.phase ≡ p → readiness_in true frames f.count f.phase ≡ readiness_in false frames f.count f.phase
        by_phase Ready e = by_bool (f.count == 0) _ (λ z. let clash = rw (e, z) at h in cc) (λ z. rw (e, z) refl)
        by_phase (Parked n bound) e = rw e refl
        by_phase (Done output) e = rw e refl
        by_phase (Failed fault) e = rw e refl
