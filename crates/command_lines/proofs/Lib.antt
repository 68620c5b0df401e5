pub mod Cuts
pub mod Keywords
pub mod ReadBack
pub mod Spelling
pub mod ThreadLines
pub mod Utf8
