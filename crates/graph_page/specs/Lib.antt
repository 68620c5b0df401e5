pub mod Markup
pub mod Quoting
