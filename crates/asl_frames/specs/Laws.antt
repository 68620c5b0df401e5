-- Laws of frames.
use Rattle.asl_tree.specs.PathSame.{IsExact}
use Rattle.asl_frames.specs.Same.{same_frame}

-- what `==` says of frames holds exactly where they are one
abbrev pub EqualityIsOfFrames : Type 0
EqualityIsOfFrames = IsExact same_frame
