pub mod Words
pub mod Faults
pub mod Status
-- what stands below and is named by the crates above
pub use Rattle.operator_line.specs.Log
pub use Rattle.operator_line.specs.Opening
pub use Rattle.operator_line.specs.OpenFault
pub use Rattle.operator_line.specs.Serving
pub use Rattle.operator_line.specs.declared.serving.ServeFault
