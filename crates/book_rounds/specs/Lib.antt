pub mod Rounds
-- what stands below and is named by the crates above
pub use Rattle.step_workers.specs.Work
