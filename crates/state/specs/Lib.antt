pub mod Outcomes
pub mod StoreMeaning
pub mod Journal
pub mod Layout
pub mod Updates
pub mod Examples
pub mod WriteEnds
