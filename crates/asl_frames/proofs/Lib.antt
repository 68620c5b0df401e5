pub mod Counters
pub mod Turns
