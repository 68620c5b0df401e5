-- A change under one branch changes the flat map there alone.
use Rattle.std.proofs.Common.{arith, zero, suc, ◌≡◌, ◌<◌, ℕ, Bool, true, false, cond, ◌&&◌, List, [], ◌∷◌, inl, inr, refl, sym, ap, subst, ◌∙◌, Option, Some, None, ◌==◌, length, get_or, set, length-set}
use Rattle.std.specs.Option.{option_and_then}
use Rattle.std.specs.List.{slice_get}
use Rattle.std.proofs.lemmas.Bool.{eqb-true, eq-eqb, ne_eqb, cases_eq}
use Rattle.std.proofs.lemmas.Option.{slice_get-get_or}
use Rattle.std.proofs.lemmas.List.Elements.{All-set}
use Rattle.asl_frames.specs.declared.frame.Frame.{Frame}
use Rattle.branch_tree.specs.Paths.{Path, same_branch, same_path, rest_after}
use Rattle.branch_tree.specs.FlatMap.{FrameMap, IsTree, with_frame, grafted, grafted_at}
use Rattle.branch_tree.specs.Tree.{Rows, flat, frame_at, branch_at, node_at, IsNode}
use Rattle.branch_tree.proofs.Flat.{at_node}
use Rattle.branch_tree.proofs.Descent.{no_steps}

pub get_set_same : (kids : List Rows) (i : ℕ) (new : Rows) → i < length kids → slice_get (set kids i new) i ≡ Some new
get_set_same [] i new h = absurd (omega arith)
get_set_same (kid ∷ kids) zero new h = refl
get_set_same (kid ∷ kids) (suc i) new h = get_set_same kids i new (omega arith)

pub get_set_other : (kids : List Rows) (i j : ℕ) (new : Rows) → (i ≡ j → ⊥) → slice_get (set kids i new) j ≡ slice_get kids j
get_set_other [] zero j new h = refl
get_set_other [] (suc i) j new h = refl
get_set_other (kid ∷ kids) zero zero new h = absurd (h refl)
get_set_other (kid ∷ kids) zero (suc j) new h = refl
get_set_other (kid ∷ kids) (suc i) zero new h = refl
get_set_other (kid ∷ kids) (suc i) (suc j) new h = get_set_other kids i j new (λ e. h (ap suc e))

get_set : (kids : List Rows) (i j : ℕ) (new : Rows) → i < length kids → slice_get (set kids i new) j ≡ cond (i == j) (Some new) (slice_get kids j)
get_set kids i j new h = elim (cases_eq i j) [
  | inl e ↦ rw (eq-eqb i j e) (subst (λ (k : ℕ). slice_get (set kids i new) k ≡ Some new) e (get_set_same kids i new h))
  | inr ne ↦ rw (ne_eqb i j ne) (get_set_other kids i j new ne)
]

-- what happens to each path's frame, told by the path of the change
abbrev Change : Type 0
Change = Path → Path → Option Frame → Option Frame

in_branch : (change : Change) (r s : Bool) (kid new : Rows) (o : Option Rows) (p q : Path) → (s ≡ true → o ≡ Some kid)
    → ((q : Path) → frame_at new q ≡ change p q (frame_at kid q))
    → cond r (option_and_then (λ k. frame_at k q) (cond s (Some new) o)) None
    ≡ cond (r && s) (change p q (cond r (option_and_then (λ k. frame_at k q) o) None)) (cond r (option_and_then (λ k. frame_at k q) o) None)
in_branch change true true kid new o p q h c = rw (h refl) (c q)
in_branch change true false kid new o p q h c = refl
in_branch change false s kid new o p q h c = refl

nested : (r s : Bool) (put : Frame) (x : Option Frame) → cond (r && s) (Some put) x ≡ cond r (cond s (Some put) x) x
nested true s put x = refl
nested false s put x = refl

past : (r : Bool) (o : Option Path) (part : FrameMap) (x : Option Frame) → grafted_at (cond r o None) part x ≡ cond r (grafted_at o part x) x
past true o part x = refl
past false o part x = refl

module _ (frame : Frame) (kids : List Rows) (v kid new : Rows) (path : Path) (b : ℕ × ℕ) (p : Path) where
  changed : (change : Change)
      → ((x : Option Frame) → change (b ∷ p) [] x ≡ x)
      → ((c : ℕ × ℕ) (q : Path) (x : Option Frame) → change (b ∷ p) (c ∷ q) x ≡ cond (same_branch b c) (change p q x) x)
      → flat frame kids ≡ v → path ≡ b ∷ p → b.0 ≡ frame.count → b.1 < length kids → kid ≡ get_or kids b.1 kid
      → ((q : Path) → frame_at new q ≡ change p q (frame_at kid q))
      → (q : Path) → frame_at (flat frame (set kids b.1 new)) q ≡ change path q (frame_at v q)
  changed change at_end below e h f l k c [] = rw (h, ← e, at_end) refl
  changed change at_end below e h f l k c (d ∷ q) =
      let s : (b.1 == d.1) ≡ true → slice_get kids d.1 ≡ Some kid =
      λ same. ap (slice_get kids) (sym (eqb-true b.1 d.1 same)) ∙ slice_get-get_or kids b.1 kid l ∙ ap Some (sym k) in
      let old : frame_at v (d ∷ q) ≡ branch_at frame.count kids d q = rw (← e) (at_node frame kids (d ∷ q)) in
      let there : branch_at frame.count (set kids b.1 new) d q ≡ cond (same_branch b d) (change p q (branch_at frame.count kids d q)) (branch_at frame.count kids d q) =
      rw (get_set kids b.1 d.1 new l, f) (in_branch change (frame.count == d.0) (b.1 == d.1) kid new (slice_get kids d.1) p q s c) in
      at_node frame (set kids b.1 new) (d ∷ q) ∙ rw (old, h, below) there

  pub framed : (put : Frame) → flat frame kids ≡ v → path ≡ b ∷ p → b.0 ≡ frame.count → b.1 < length kids → kid ≡ get_or kids b.1 kid
      → ((q : Path) → frame_at new q ≡ with_frame (frame_at kid) p put q)
      → (q : Path) → frame_at (flat frame (set kids b.1 new)) q ≡ with_frame (frame_at v) path put q
  framed put = changed (λ p q x. cond (same_path p q) (Some put) x) (λ x. refl) (λ d q x. nested (same_branch b d) (same_path p q) put x)

  pub grafted_below : (part : FrameMap) → flat frame kids ≡ v → path ≡ b ∷ p → b.0 ≡ frame.count → b.1 < length kids → kid ≡ get_or kids b.1 kid
      → ((q : Path) → frame_at new q ≡ grafted (frame_at kid) p part q)
      → (q : Path) → frame_at (flat frame (set kids b.1 new)) q ≡ grafted (frame_at v) path part q
  grafted_below part = changed (λ p q x. grafted_at (rest_after p q) part x) (λ x. refl) (λ d q x. past (same_branch b d) (rest_after p q) part x)

pub set_node : (frame : Frame) (kids : List Rows) (i : ℕ) (new : Rows) → IsNode frame kids → IsTree (frame_at new) → IsNode frame (set kids i new)
set_node frame kids i new n t = record { counted = length-set kids i new ∙ n.counted; trees = All-set (λ k. IsTree (frame_at k)) kids i new t n.trees }

pub grafted_here : (frame f : Frame) (kids : List Rows) (v : Rows) (path : Path) → length path < 1 → f ≡ frame
    → (q : Path) → frame_at (flat f kids) q ≡ grafted (frame_at v) path (node_at frame kids) q
grafted_here frame f kids v path short e q =
    subst (λ (g : Frame). frame_at (flat g kids) q ≡ grafted (frame_at v) path (node_at frame kids) q) (sym e) (rw (no_steps path short) (at_node frame kids q))
