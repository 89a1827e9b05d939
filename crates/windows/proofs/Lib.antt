pub mod Examples
pub mod WindowLaws
