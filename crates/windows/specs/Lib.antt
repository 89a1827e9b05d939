pub mod Windows
pub mod Examples
