pub mod ErrorFields
pub mod ErrorFaults
pub mod Same
