-- Laws of settling, for the proofs of the calls that settle.
pub mod ChoiceLaws
pub mod RecordLaws
pub mod InRecord
pub mod OneSettled
pub mod Settled
pub mod Chosen
