-- Laws of the definitions of specs/, in reading order, for the proofs of this crate and of the crates that link it; those of bits
-- are this crate's alone.

-- ---- lists

-- `cut` and `pasted`: a part of a list, and a list with a part replaced.
pub mod PartLaws
-- A list that is made by index.
pub mod TableLaws
-- Tests and sums by index.
pub mod BelowLaws
--
-- ---- bits
--
-- Bits of an octet, and a run of octets that is cleared.
mod BitLaws
-- Marks, and sets of transactions.
pub mod MarkLaws
-- Sets of numbers as bits.
pub mod SetLaws
-- F-9: both layouts of the marks name the same pairs of transaction and byte.
pub mod Rearranged
