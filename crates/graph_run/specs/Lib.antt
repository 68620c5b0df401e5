pub mod Status
pub mod Answering
pub mod Questions
pub mod Reading
pub mod Wanted
pub mod Words
