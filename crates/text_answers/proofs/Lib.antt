-- Laws of what is printed, for this crate's proofs; `Examples` has the examples of specs/, computed.
pub mod Laws
pub mod Examples
