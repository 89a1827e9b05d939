pub mod Words
pub mod Loaded
pub mod Images
pub mod Young
