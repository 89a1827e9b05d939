-- Laws of fetches, for the proofs of this crate and of the crates that link it.
pub mod FetchLaws
pub mod MachineLaws
pub mod VisitedLaws
