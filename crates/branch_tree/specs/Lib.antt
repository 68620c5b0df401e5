pub mod Paths
pub mod FlatMap
pub mod Tree
pub mod Falls
pub mod Bounds
pub mod Ready
pub mod Leading
pub mod Laws
pub mod First
-- what stands below and is named by the crates above
pub use Rattle.asl_frames.specs.Turn
pub use Rattle.asl_frames.specs.declared.frame.Fault
pub use Rattle.asl_frames.specs.declared.frame.Frame
pub use Rattle.asl_frames.specs.declared.frame.Phase
pub use Rattle.asl_frames.specs.Definition
pub use Rattle.asl_frames.specs.Map
pub use Rattle.asl_frames.specs.State
