pub mod Answered
pub mod Cursors
pub mod Threads
