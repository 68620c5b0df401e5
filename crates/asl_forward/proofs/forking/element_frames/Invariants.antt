use Rattle.std.proofs.Common.{◌≡◌, length, drop}
use Rattle.json_tree.specs.View.{data_of, list_of}
use Rattle.asl_forward.specs.Forks.{element_frames}
use Rattle.asl_forward.proofs.Begun.{after_those}
use Rattle.asl_forward.proofs.forking.element_frames.Given as goal

-- the frames so far, and those of the elements that are left, are those of all
abbrev pub invariant-loop-element : goal.invariant-loop-element
invariant-loop-element l =
    after_those l.frames (element_frames l.map l.frame (data_of l.input) (length l.frames) (list_of (drop l.element-index l.element-items)))
    ≡ element_frames l.map l.frame (data_of l.input) 0 l.elements
