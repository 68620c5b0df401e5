pub mod Nodes
pub mod Views
pub mod Depths
pub mod Deeper
pub mod Readings
pub mod Texts
pub mod RoundTrip
pub mod Same
pub mod Commonest
mod Rows
