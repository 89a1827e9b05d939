-- Laws for this crate's proofs: of a line, of its turn and its text, of the start. `TruncatedLines`, `WholeRun` and `Examples`
-- have the statements of specs/, proved.
mod Laws
mod Turns
mod Starting
pub mod TruncatedLines
pub mod WholeRun
pub mod Examples
