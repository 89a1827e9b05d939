pub mod Choices
pub mod Records
pub mod Outcome
