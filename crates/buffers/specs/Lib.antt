pub mod Below
pub mod Parts
pub mod Bits
pub mod Marks
pub mod Examples
