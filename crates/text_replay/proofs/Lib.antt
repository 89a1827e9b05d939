-- Laws for this crate's proofs.
mod Laws
-- Places has few pairs.
mod Listing
-- The reader's buffer serves for every call.
mod Performing
-- A line comes to what the definition says.
pub mod TurnLaws
