-- The frames of branches, one after another.
use Rattle.std.proofs.Common.{◌≡◌, ℕ, ◌+◌, ◌≤◌, List, [], ◌∷◌, ◌++◌, length, Result, Ok, Err, ◌<◌, nat_le, codes, refl, ap, append_assoc, sym, arith}
use Rattle.std.proofs.lemmas.Bool.{cond-false, lt-leb}
use Rattle.json_tree.specs.Data.{Data, depth}
use Rattle.asl_frames.specs.Definition.{Definition}
use Rattle.asl_forward.specs.Forks.{with_others, begins_branch, frames_from}
use Rattle.asl_processing.specs.Processing.{within_levels}
use Rattle.asl_frames.specs.declared.frame.Frame.{Frame}

-- those frames, and then these
abbrev pub after_those : List Frame → Result (List Frame) (List ℕ) → Result (List Frame) (List ℕ)
after_those fs (Ok gs) = Ok (fs ++ gs)
after_those fs (Err error) = Err error

pub one_more_frame : (fs : List Frame) (f : Frame) (others : Result (List Frame) (List ℕ))
    → after_those fs (with_others others (Ok f)) ≡ after_those (fs ++ f ∷ []) others
one_more_frame fs f (Ok gs) = ap Ok (sym (append_assoc fs (f ∷ []) gs))
one_more_frame fs f (Err error) = refl

pub after_none : (others : Result (List Frame) (List ℕ)) → after_those [] others ≡ others
after_none (Ok gs) = refl
after_none (Err error) = refl

held_not : (d : Data) → 127 < depth d → within_levels d ≡ Err (codes "States.Runtime")
held_not d h = cond-false (nat_le (depth d) 127) (Ok d) (Err (codes "States.Runtime")) (lt-leb (depth d) 127 h)

-- where there is a branch, an input that is too deep is none's
pub too_deep : (f : Frame) (n : ℕ) (ds : List Definition) (input : Data) → 127 < depth input → 1 ≤ length ds → frames_from f n ds input ≡ Err (codes "States.Runtime")
too_deep f n [] input deep some =
    let none : ⊥ = omega (arith, some) in
    absurd none
too_deep f n (d ∷ ds) input deep some = ap (λ worked. with_others (frames_from f (n + 1) ds input) (begins_branch f d n worked)) (held_not input deep)
