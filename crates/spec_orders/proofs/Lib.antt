pub mod Members
pub mod Numbered
pub mod Best
pub mod Distinct
pub mod Examples
