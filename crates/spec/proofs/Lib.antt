-- Proofs of the statements of specs/, in reading order. The numbers 1 to 8 are the steps of "The idea of the proof" in
-- docs/PROOFS.md.

-- Steps 1 to 5, and the abstract store's part of 7 and 8: the abstract store (no buffers, no numbers) and the reference model
-- give the same replies, and the granted transactions have a serial order.
pub mod Abstract
-- Step 6, and the state's part of 7 and 8: the rules on state and buffers are the abstract store seen through `view`.
pub mod Refinement
-- The statements themselves: refusals, serializability, and what follows from it.
pub mod Theorems
-- F-1: the list of Places is proper and lists exactly the places covered.
pub mod Places
-- F-12: one long write or two short ones.
pub mod Splitting
-- Situations and edge cases, computed from the definitions.
pub mod Examples
