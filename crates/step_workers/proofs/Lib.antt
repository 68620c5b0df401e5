pub mod Crossing
pub mod Going
pub mod Seated
pub mod Sending
pub mod Sums
pub mod TakenBack
