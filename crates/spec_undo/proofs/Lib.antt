pub mod OldBytesLaws
pub mod Examples
