pub mod Fetch
pub mod Supplied
