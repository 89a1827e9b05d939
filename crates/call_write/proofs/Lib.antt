pub mod SeekRules
pub mod WriteRules
