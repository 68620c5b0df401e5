pub mod History
pub mod Laws
pub mod Moves
pub mod Levels
pub mod OneMachine
pub mod SettledNames
-- what stands below and is named by the crates above
pub use Rattle.asl_frames.specs.Turn
pub use Rattle.asl_frames.specs.declared.frame.Frame
pub use Rattle.asl_frames.specs.declared.frame.Phase
pub use Rattle.asl_frames.specs.Same as FrameSame
pub use Rattle.asl_forward.specs.declared.prepared.Prepared
pub use Rattle.step_index.specs.Near
