pub mod Rest
pub mod Planned
pub mod Answered
pub mod FirstMove
pub mod Calls
pub mod Tickets
pub mod Commits
pub mod Cursors
-- what stands below and is named by the crates above
pub use Rattle.step_history.specs.Frame
pub use Rattle.step_history.specs.Prepared
pub use Rattle.saved_steps.specs.declared.fact.Fact
pub use Rattle.saved_steps.specs.First
pub use Rattle.saved_steps.specs.Steps
