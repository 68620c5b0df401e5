pub mod Logs
pub mod Receipts
pub mod Seatings
pub mod Sums
