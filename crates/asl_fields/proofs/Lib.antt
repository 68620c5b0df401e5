pub mod Names
pub mod NoPaths
pub mod OneField
pub mod FieldsRefused
pub mod KnownMembers
