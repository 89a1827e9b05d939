-- Laws of lines, and of the way through a piece of input. `Pieces` and `WholeRun` have the statements of specs/, proved,
-- and `Examples` its examples, computed.
mod Laws
pub mod Pieces
pub mod Passing
pub mod WholeRun
pub mod Examples
