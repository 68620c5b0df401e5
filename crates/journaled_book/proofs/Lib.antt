pub mod Said
pub mod Given
pub mod Kept
pub mod Unopened
pub use Rattle.book_events.proofs.Threads
pub use Rattle.book_events.proofs.Cursors
