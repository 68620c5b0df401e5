pub mod Profile
pub mod Levels
pub mod Faults
pub mod Laws
-- what stands below and is named by the crates above
pub use Rattle.asl_fields.specs.Fields
pub use Rattle.asl_fields.specs.Refusal
pub use Rattle.asl_tree.specs.Definition
pub use Rattle.asl_tree.specs.Levels as TreeLevels
pub use Rattle.asl_tree.specs.PathSame
pub use Rattle.asl_tree.specs.Same as MachineSame
pub use Rattle.asl_tree.specs.StateSame
