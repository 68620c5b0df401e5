pub mod TestTree
pub mod TestCode
pub mod TestView
pub mod TestFalls
pub mod TestFields
pub mod TestFaults
pub mod Holding
pub mod TestSame
pub mod Reading
pub mod Profile
pub mod Faults
pub mod Same
-- what stands below and is named by the crates above
pub use Rattle.asl_errors.specs.Same as ErrorSame
pub use Rattle.asl_errors.specs.contracts.errors.ErrorHandling as ErrorHandlingContract
pub use Rattle.asl_errors.specs.declared.errors.Catcher
pub use Rattle.asl_errors.specs.declared.errors.ErrorHandling
pub use Rattle.asl_errors.specs.declared.errors.Retrier
pub use Rattle.asl_fields.specs.Fields
pub use Rattle.asl_fields.specs.Refusal
pub use Rattle.asl_fields.specs.declared.fault.MachineFault
pub use Rattle.asl_fields.specs.Filling
pub use Rattle.asl_fields.specs.PayloadCode
pub use Rattle.asl_fields.specs.Picking
pub use Rattle.asl_fields.specs.Placing
pub use Rattle.asl_fields.specs.Same as PathSame
pub use Rattle.asl_fields.specs.Templates
pub use Rattle.asl_fields.specs.PathStep
