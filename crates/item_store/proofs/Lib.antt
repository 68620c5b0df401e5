pub mod Cuts
pub mod Shapes
pub mod Slots
pub mod Listings
pub mod Calls
pub mod Conditions
mod Rows
