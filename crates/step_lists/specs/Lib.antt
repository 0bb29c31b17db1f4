pub mod StepChecks
pub mod code
