mod Flat
mod Nodes
mod Descent
mod Changes
mod Progress
mod Grafts
mod Leaves
pub mod Window
mod Counted
pub mod FirstOf
mod Names
mod Below
pub use Rattle.asl_frames.proofs.Turns
