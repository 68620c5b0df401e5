pub mod Shares
pub mod Work
pub mod Seats
pub mod Rooms
pub mod Undoings
