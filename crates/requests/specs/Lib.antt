pub mod Requests
pub mod Performing
pub mod Examples
