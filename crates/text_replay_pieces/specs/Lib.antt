-- That what is kept fits its buffers.
pub mod Bounds
