pub mod OldBytes
pub mod Examples
