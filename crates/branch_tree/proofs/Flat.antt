-- A flattened node gives at each path what it gives by its parts.
use Rattle.std.proofs.Common.{arith, suc, ◌≡◌, ℕ, ◌+◌, ◌-◌, Bool, true, false, cond, ◌&&◌, List, [], ◌∷◌, ◌++◌, inl, inr, refl, ◌∙◌, Option, Some, None, nat_le, ◌==◌}
use Rattle.std.specs.Option.{option_or, option_and_then}
use Rattle.std.specs.List.{slice_get}
use Rattle.std.proofs.lemmas.Bool.{le-leb, lt-leb, eq-eqb, ne_eqb, cases_order}
use Rattle.asl_frames.specs.declared.frame.Frame.{Frame}
use Rattle.branch_tree.specs.Paths.{Path, same_path, same_branch}
use Rattle.branch_tree.specs.Tree.{Rows, under, rows_from, flat, frame_at, node_at}

append_step : (r : Bool) (x y z : Option Frame) (f : Frame) → z ≡ option_or x y → cond r (Some f) z ≡ option_or (cond r (Some f) x) y
append_step true x y z f h = refl
append_step false x y z f h = h

at_append : (xs ys : Rows) (q : Path) → frame_at (xs ++ ys) q ≡ option_or (frame_at xs q) (frame_at ys q)
at_append [] ys q = refl
at_append (e ∷ xs) ys q = append_step (same_path e.0 q) (frame_at xs q) (frame_at ys q) (frame_at (xs ++ ys) q) e.1 (at_append xs ys q)

under_none : (r : Bool) (x : Option Frame) → x ≡ None → x ≡ cond r x None
under_none true x h = refl
under_none false x h = h

under_step : (r s : Bool) (x y z : Option Frame) → z ≡ cond r y None → cond (r && s) x z ≡ cond r (cond s x y) None
under_step true true x y z h = refl
under_step true false x y z h = h
under_step false s x y z h = h

at_under : (b c : ℕ × ℕ) (rows : Rows) (q : Path) → frame_at (under b rows) (c ∷ q) ≡ cond (same_branch b c) (frame_at rows q) None
at_under b c [] q = under_none (same_branch b c) None refl
at_under b c (e ∷ rows) q = under_step (same_branch b c) (same_path e.0 q) (Some e.1) (frame_at rows q) (frame_at (under b rows) (c ∷ q)) (at_under b c rows q)

or_none : (x : Option Frame) → option_or x None ≡ x
or_none None = refl
or_none (Some f) = refl

-- what the branches from the i-th on give
from_at : ℕ → ℕ → List Rows → ℕ × ℕ → Path → Option Frame
from_at fork i kids b q = cond (fork == b.0 && nat_le i b.1) (option_and_then (λ kid. frame_at kid q) (slice_get kids (b.1 - i))) None

here_or_later : (r : Bool) (fork i j : ℕ) (kid : Rows) (kids : List Rows) (q : Path)
    → option_or (cond (r && i == j) (frame_at kid q) None) (cond (r && nat_le (i + 1) j) (option_and_then (λ k. frame_at k q) (slice_get kids (j - (i + 1)))) None)
    ≡ cond (r && nat_le i j) (option_and_then (λ k. frame_at k q) (slice_get (kid ∷ kids) (j - i))) None
here_or_later false fork i j kid kids q = refl
here_or_later true fork i j kid kids q = elim (cases_order i j) [
  | inl same ↦
      let e : j - i ≡ 0 = omega arith in
      rw (eq-eqb i j same, lt-leb (i + 1) j (omega arith), le-leb i j (omega arith), e, or_none (frame_at kid q)) refl
  | inr (inl less) ↦
      let e : j - i ≡ suc (j - (i + 1)) = omega arith in
      rw (ne_eqb i j (λ h. absurd (omega arith)), le-leb (i + 1) j (omega arith), le-leb i j (omega arith), e) refl
  | inr (inr more) ↦ rw (ne_eqb i j (λ h. absurd (omega arith)), lt-leb (i + 1) j (omega arith), lt-leb i j (omega arith)) refl
]

at_rows : (fork i : ℕ) (kids : List Rows) (b : ℕ × ℕ) (q : Path) → frame_at (rows_from fork i kids) (b ∷ q) ≡ from_at fork i kids b q
unfolding from_at
at_rows fork i [] b q = under_none (fork == b.0 && nat_le i b.1) None refl
at_rows fork i (kid ∷ kids) b q =
    at_append (under (fork, i) kid) (rows_from fork (i + 1) kids) (b ∷ q)
    ∙ rw (at_under (fork, i) b kid q, at_rows fork (i + 1) kids b q) (here_or_later (fork == b.0) fork i b.1 kid kids q)

whole : (r : Bool) (b : ℕ × ℕ) (kids : List Rows) (q : Path)
    → cond (r && nat_le 0 b.1) (option_and_then (λ kid. frame_at kid q) (slice_get kids (b.1 - 0))) None
    ≡ cond r (option_and_then (λ kid. frame_at kid q) (slice_get kids b.1)) None
whole false b kids q = refl
whole true b kids q = let e : b.1 - 0 ≡ b.1 = omega arith in rw (le-leb 0 b.1 (omega arith), e) refl

pub at_node : (frame : Frame) (kids : List Rows) (q : Path) → frame_at (flat frame kids) q ≡ node_at frame kids q
unfolding from_at
at_node frame kids [] = refl
at_node frame kids (b ∷ q) = at_rows frame.count 0 kids b q ∙ whole (frame.count == b.0) b kids q
