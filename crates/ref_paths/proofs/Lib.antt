pub mod Shapes
pub mod Nests
pub mod Places
pub mod Scans
pub mod PickedAgain
pub mod Composed
pub mod PlacedDepth
pub mod Inside
pub mod OneSpelling
pub mod Sources
pub mod TemplateReadings
pub mod NoTemplates
pub mod OneTemplate
pub mod Unmarked
pub mod FieldsFilled
mod Rows
