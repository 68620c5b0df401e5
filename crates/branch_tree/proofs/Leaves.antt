-- A list of branches with nothing under them, made one by one.
use Rattle.std.proofs.Common.{◌≡◌, List, [], ◌∷◌, ◌++◌, sym, ap, subst, ◌∙◌, map}
use Rattle.std.specs.List.{All}
use Rattle.std.proofs.lemmas.List.{map-append}
use Rattle.std.proofs.lemmas.List.Elements.{All-push}
use Rattle.asl_frames.specs.declared.frame.Frame.{Frame}
use Rattle.branch_tree.specs.FlatMap.{IsTree}
use Rattle.branch_tree.specs.Tree.{Rows, leaf, frame_at}

pub one_more : (kids new : List Rows) (frames : List Frame) (kid : Rows) (frame : Frame) → new ≡ kids ++ kid ∷ [] → kids ≡ map leaf frames → kid ≡ leaf frame → new ≡ map leaf (frames ++ frame ∷ [])
one_more kids new frames kid frame e f g = e ∙ ap (λ (k : Rows). kids ++ k ∷ []) g ∙ ap (λ (ks : List Rows). ks ++ leaf frame ∷ []) f ∙ sym (map-append leaf frames (frame ∷ []))

pub one_more_tree : (kids new : List Rows) (kid : Rows) → new ≡ kids ++ kid ∷ [] → All (λ k. IsTree (frame_at k)) kids → IsTree (frame_at kid) → All (λ k. IsTree (frame_at k)) new
one_more_tree kids new kid e all tree = subst (λ (ks : List Rows). All (λ k. IsTree (frame_at k)) ks) (sym e) (All-push (λ k. IsTree (frame_at k)) kids kid all tree)
