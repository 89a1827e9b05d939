-- Laws for this crate's proofs.
mod Laws
