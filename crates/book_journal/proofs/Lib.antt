mod Changes
mod Keeping
mod Lists
mod Numbers
mod Queries
mod Refusals
mod Selects
pub mod Statements
