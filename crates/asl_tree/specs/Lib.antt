pub mod Definition
pub mod TreeCode
pub mod TreeView
pub mod TreeFalls
pub mod Complete
pub mod Targets
pub mod Find
pub mod Levels
pub mod Same
pub mod LevelSame
pub mod Laws
-- what stands below and is named by the crates above
pub use Rattle.asl_states.specs.PathSame
pub use Rattle.asl_states.specs.Same as StateSame
