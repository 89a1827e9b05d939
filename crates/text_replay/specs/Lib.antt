-- That what is kept fits its buffers.
pub mod Bounds
-- How differences from a log are counted.
pub mod Counting
-- What performing a line promises.
pub mod Performing
-- That a line comes to what the definition says.
pub mod Turns
