pub mod Answers
pub mod Beginning
pub mod EntrySame
pub mod Laws
pub mod Legal
pub mod Log
-- what stands below and is named by the crates above
pub use Rattle.depends.specs.Fault
pub use Rattle.depends.specs.Frame
pub use Rattle.depends.specs.Phase
pub use Rattle.asl_machine.specs.Profile
pub use Rattle.depends.specs.Readiness
pub use Rattle.depends.specs.Kind
pub use Rattle.depends.specs.StepRecord
