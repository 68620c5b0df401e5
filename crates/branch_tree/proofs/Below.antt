-- What stands under a thread.
use Rattle.std.proofs.Common.{◌≡◌, true, ◌&&◌, ◌==◌, nat_lt, [], ◌∷◌, ◌++◌, refl, sym, ap, ◌∙◌, Option, Some, None, is_some, append_assoc}
use Rattle.std.proofs.lemmas.Bool.{and_parts, eqb-true, ltb-true}
use Rattle.std.proofs.lemmas.List.{append-nil}
use Rattle.asl_frames.specs.declared.frame.Frame.{Frame}
use Rattle.branch_tree.specs.Paths.{Path}
use Rattle.branch_tree.specs.FlatMap.{FrameMap, IsTree, branch_count}
use Rattle.branch_tree.specs.Laws.{BelowIsParked}

pub nothing_under : (frames : FrameMap) → IsTree frames → (p r : Path) → frames p ≡ None → frames (p ++ r) ≡ None
nothing_under frames tree p [] h = ap frames (append-nil p) ∙ h
nothing_under frames tree p (b ∷ r) h =
    ap frames (sym (append_assoc p (b ∷ []) r)) ∙ nothing_under frames tree (p ++ b ∷ []) r (tree.nothing_below p h b)

some_or_none : (o : Option Frame) → (o ≡ None → ⊥) → is_some o ≡ true
some_or_none None h = absurd (h refl)
some_or_none (Some f) h = refl

above : (o : Option Frame) → (o ≡ None → ⊥) → (g : Frame) × (o ≡ Some g)
above None h = absurd (h refl)
above (Some g) h = (g, refl)

apart : (f : Frame) → ◌≡◌ {A = Option Frame} None (Some f) → ⊥
apart f h = cc

pub below_is_parked : BelowIsParked
below_is_parked frames p r b f tree h =
    let whole : frames ((p ++ b ∷ []) ++ r) ≡ Some f = ap frames (append_assoc p (b ∷ []) r) ∙ h in
    let there : frames (p ++ b ∷ []) ≡ None → ⊥ = λ e. apart f (sym (nothing_under frames tree (p ++ b ∷ []) r e) ∙ whole) in
    let g = above (frames p) (λ e. there (tree.nothing_below p e b)) in
    let yes : (g.0.count == b.0 && nat_lt b.1 (branch_count g.0.phase)) ≡ true = sym (tree.branches p g.0 g.1 b) ∙ some_or_none (frames (p ++ b ∷ [])) there in
    let parts = and_parts (g.0.count == b.0) (nat_lt b.1 (branch_count g.0.phase)) yes in
    (g.0, g.1, sym (eqb-true g.0.count b.0 parts.0), ltb-true b.1 (branch_count g.0.phase) parts.1)
