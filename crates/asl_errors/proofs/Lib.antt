pub mod OneErrors
pub mod ErrorsRefused
