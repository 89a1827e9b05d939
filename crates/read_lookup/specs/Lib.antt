pub mod Latest
pub mod Lookup
