pub mod EndRules
pub mod FreshRules
pub mod ResetRules
