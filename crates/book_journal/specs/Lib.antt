pub mod Change
pub mod Entries
pub mod Faults
pub mod Kept
pub mod Table
