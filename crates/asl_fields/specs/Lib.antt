pub mod Fields
pub mod Values
pub mod Refusal
pub mod FieldFaults
-- what stands below and is named by the crates above
pub use Rattle.ref_paths.specs.Filling
pub use Rattle.ref_paths.specs.PayloadCode
pub use Rattle.ref_paths.specs.Picking
pub use Rattle.ref_paths.specs.Placing
pub use Rattle.ref_paths.specs.Same
pub use Rattle.ref_paths.specs.Templates
pub use Rattle.ref_paths.specs.declared.path.PathStep
