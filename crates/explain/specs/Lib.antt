pub mod Details
pub mod Ends
