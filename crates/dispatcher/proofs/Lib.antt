pub mod ScriptLaws
pub mod StepLaws
pub mod DispatchLaws
pub mod Link
pub mod Examples
