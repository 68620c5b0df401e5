pub mod Counts
pub mod Marking
pub mod Answering
pub mod Passing
pub mod HeldBack
pub mod Latest
pub mod Sought
pub mod Entered
