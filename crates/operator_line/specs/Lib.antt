pub mod Lines
pub mod Texts
pub mod Answers
pub mod LineLaws
pub mod Serving
pub mod Handing
pub mod Driving
pub mod Sessions
pub mod Answering
mod AnswerRows
-- what stands below and is named by the crates above
pub use Rattle.book_log.specs.Log
pub use Rattle.journaled_book.specs.Opening
pub use Rattle.journaled_book.specs.declared.fault.OpenFault
