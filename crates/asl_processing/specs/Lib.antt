pub mod Errors
pub mod Processing
pub mod Choosing
-- what stands below and is named by the crates above
pub use Rattle.asl_states.specs.Holding
pub use Rattle.asl_states.specs.TestView
pub use Rattle.asl_states.specs.declared.choice.Rule
pub use Rattle.asl_states.specs.Catcher
pub use Rattle.asl_states.specs.ErrorHandling
pub use Rattle.asl_states.specs.Retrier
pub use Rattle.asl_states.specs.Fields
pub use Rattle.asl_states.specs.Reading
pub use Rattle.asl_states.specs.declared.state.Choice
pub use Rattle.asl_states.specs.declared.state.Fail
pub use Rattle.asl_states.specs.declared.state.Pass
pub use Rattle.asl_states.specs.declared.state.Processing as StateProcessing
pub use Rattle.asl_states.specs.declared.state.Resource
pub use Rattle.asl_states.specs.declared.state.Task
pub use Rattle.asl_states.specs.declared.state.Transition
pub use Rattle.asl_states.specs.Filling
pub use Rattle.asl_states.specs.Picking
pub use Rattle.asl_states.specs.Templates
pub use Rattle.asl_states.specs.PathStep
