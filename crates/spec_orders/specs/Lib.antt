pub mod Orders
pub mod Laws
pub mod Numbering
pub mod Examples
