pub mod TestReadings
pub mod Shapes
pub mod OneTest
pub mod RulesRefused
pub mod Whole
pub mod NoPath
pub mod OneState
pub mod StateRefused
