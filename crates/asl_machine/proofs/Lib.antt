pub mod OneMachine
pub mod Refused
pub mod Within
pub mod Whole
pub mod Levels
