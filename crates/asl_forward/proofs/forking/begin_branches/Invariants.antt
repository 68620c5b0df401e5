use Rattle.std.proofs.Common.{◌≡◌, length, drop}
use Rattle.json_tree.specs.View.{data_of}
use Rattle.asl_forward.specs.Forks.{frames_from}
use Rattle.asl_forward.proofs.Begun.{after_those}
use Rattle.asl_forward.proofs.forking.begin_branches.Given as goal

-- the frames so far, and those of the branches that are left, are those of all
abbrev pub invariant-loop-machine : goal.invariant-loop-machine
invariant-loop-machine l =
    after_those l.frames (frames_from l.frame (length l.frames) (drop l.machine-index l.machine-items) (data_of l.input))
    ≡ frames_from l.frame 0 l.machine-items (data_of l.input)
