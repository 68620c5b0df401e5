pub mod Grammar
pub mod Spelled
pub mod GrammarLaws
mod GrammarRows
