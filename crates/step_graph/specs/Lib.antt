pub mod Edges
pub mod Chains
pub mod Causes
pub mod Opened
pub mod Members
pub mod Words
