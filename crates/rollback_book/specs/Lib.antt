pub mod Book
pub mod Holding
pub mod Making
pub mod Ready
pub mod Ordering
pub mod Rerunning
pub mod Settling
pub mod Commuting
-- what stands below and is named by the crates above
pub use Rattle.step_history.specs.Frame
pub use Rattle.step_history.specs.Prepared
pub use Rattle.asl_machine.specs.Profile
pub use Rattle.branch_tree.specs.declared.readiness.Readiness
pub use Rattle.depends.specs.Dependence
pub use Rattle.saved_steps.specs.Steps
pub use Rattle.saved_steps.specs.declared.fact.Fact
pub use Rattle.saved_steps.specs.declared.fact.Kind
pub use Rattle.saved_steps.specs.declared.record.StepRecord
pub use Rattle.saved_steps.specs.First
pub use Rattle.step_history.specs.contracts.history.History as HistoryContract
pub use Rattle.step_index.specs.contracts.records.StepRecords as StepRecordsContract
pub use Rattle.book_events.specs.Rest
pub use Rattle.book_events.specs.Planned
pub use Rattle.book_events.specs.FirstMove
pub use Rattle.book_events.specs.Calls
pub use Rattle.book_events.specs.Tickets
pub use Rattle.book_events.specs.Commits
pub use Rattle.book_events.specs.Cursors
pub use Rattle.book_events.specs.declared.cursor.Cursor
pub use Rattle.book_events.specs.declared.room.PlanRoom
