-- Laws for this crate's proofs. `WholeRun` has the statement of specs/, proved.
mod Laws
mod BlockLaws
pub mod WholeRun
