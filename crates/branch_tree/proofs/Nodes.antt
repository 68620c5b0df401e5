-- A node whose branches are trees, as many as it is parked over, is a tree.
use Rattle.std.proofs.Common.{◌≡◌, ℕ, Bool, true, false, cond, ◌&&◌, List, [], ◌∷◌, ◌++◌, inl, inr, refl, sym, ap, subst, ◌∙◌, Option, Some, None, is_some, nat_lt, ◌==◌, length, get_or}
use Rattle.std.proofs.Math.Path.{fun_ext}
use Rattle.std.specs.Option.{option_and_then}
use Rattle.std.specs.List.{slice_get, All}
use Rattle.std.proofs.lemmas.Bool.{lt-ltb, le-ltb, cases_lt}
use Rattle.std.proofs.lemmas.Option.{slice_get_within, get_or_from_slice_get, slice_get-get_or, slice_get_past}
use Rattle.asl_frames.specs.declared.frame.Frame.{Frame}
use Rattle.branch_tree.specs.Paths.{Path}
use Rattle.branch_tree.specs.FlatMap.{FrameMap, IsTree, branch_count}
use Rattle.branch_tree.specs.Tree.{Rows, flat, frame_at, node_at, IsNode}
use Rattle.branch_tree.proofs.Flat.{at_node}

pub branch_tree : (kids : List Rows) (i : ℕ) (kid : Rows) → All (λ k. IsTree (frame_at k)) kids → slice_get kids i ≡ Some kid → IsTree (frame_at kid)
branch_tree kids i kid all h =
    subst (λ (k : Rows). IsTree (frame_at k)) (get_or_from_slice_get kids i kid kid h) (all i kid (slice_get_within kids i kid h))

-- a branch of a node has a frame where its index is below the number of branches
kid_there : (kids : List Rows) (i : ℕ) → All (λ k. IsTree (frame_at k)) kids → is_some (option_and_then (λ k. frame_at k []) (slice_get kids i)) ≡ nat_lt i (length kids)
kid_there kids i all = elim (cases_lt i (length kids)) [
  | inl less ↦
      let e : slice_get kids i ≡ Some (get_or kids i []) = slice_get-get_or kids i [] less in
      rw (e, lt-ltb i (length kids) less) (branch_tree kids i (get_or kids i []) all e).root
  | inr more ↦ rw (slice_get_past kids i more, le-ltb i (length kids) more) refl
]

here : (r : Bool) (kids : List Rows) (i : ℕ) → All (λ k. IsTree (frame_at k)) kids
    → is_some (cond r (option_and_then (λ k. frame_at k []) (slice_get kids i)) None) ≡ (r && nat_lt i (length kids))
here true kids i all = kid_there kids i all
here false kids i all = refl

below : (r : Bool) (kids : List Rows) (o : Option Rows) (i : ℕ) (p : Path) (g : Frame) (b : ℕ × ℕ) → All (λ k. IsTree (frame_at k)) kids → slice_get kids i ≡ o
    → cond r (option_and_then (λ k. frame_at k p) o) None ≡ Some g
    → is_some (cond r (option_and_then (λ k. frame_at k (p ++ b ∷ [])) o) None) ≡ (g.count == b.0 && nat_lt b.1 (branch_count g.phase))
below false kids o i p g b all e h = cc
below true kids None i p g b all e h = cc
below true kids (Some kid) i p g b all e h = (branch_tree kids i kid all e).branches p g h b

nothing : (r : Bool) (kids : List Rows) (o : Option Rows) (i : ℕ) (p : Path) (b : ℕ × ℕ) → All (λ k. IsTree (frame_at k)) kids → slice_get kids i ≡ o
    → cond r (option_and_then (λ k. frame_at k p) o) None ≡ None
    → cond r (option_and_then (λ k. frame_at k (p ++ b ∷ [])) o) None ≡ None
nothing false kids o i p b all e h = refl
nothing true kids None i p b all e h = refl
nothing true kids (Some kid) i p b all e h = (branch_tree kids i kid all e).nothing_below p h b

node_branches : (frame : Frame) (kids : List Rows) → IsNode frame kids → (p : Path) (g : Frame) → node_at frame kids p ≡ Some g → (b : ℕ × ℕ)
    → is_some (node_at frame kids (p ++ b ∷ [])) ≡ (g.count == b.0 && nat_lt b.1 (branch_count g.phase))
node_branches frame kids n [] g h b =
    let e : frame ≡ g = cc in
    subst (λ (f : Frame). is_some (node_at frame kids (b ∷ [])) ≡ (f.count == b.0 && nat_lt b.1 (branch_count f.phase))) e
    (here (frame.count == b.0) kids b.1 n.trees ∙ ap (λ (m : ℕ). frame.count == b.0 && nat_lt b.1 m) n.counted)
node_branches frame kids n (c ∷ p) g h b = below (frame.count == c.0) kids (slice_get kids c.1) c.1 p g b n.trees refl h

node_nothing : (frame : Frame) (kids : List Rows) → IsNode frame kids → (p : Path) → node_at frame kids p ≡ None → (b : ℕ × ℕ) → node_at frame kids (p ++ b ∷ []) ≡ None
node_nothing frame kids n [] h b = cc
node_nothing frame kids n (c ∷ p) h b = nothing (frame.count == c.0) kids (slice_get kids c.1) c.1 p b n.trees refl h

node_tree : (frame : Frame) (kids : List Rows) → IsNode frame kids → IsTree (node_at frame kids)
node_tree frame kids n = record { root = refl; branches = node_branches frame kids n; nothing_below = node_nothing frame kids n }

pub flat_is_node : (frame : Frame) (kids : List Rows) → ◌≡◌ {A = FrameMap} (frame_at (flat frame kids)) (node_at frame kids)
flat_is_node frame kids = fun_ext (λ q. at_node frame kids q)

pub flat_tree : (frame : Frame) (kids : List Rows) → IsNode frame kids → IsTree (frame_at (flat frame kids))
flat_tree frame kids n = subst (λ (m : FrameMap). IsTree m) (sym (flat_is_node frame kids)) (node_tree frame kids n)
