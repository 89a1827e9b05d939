-- The rounds, over any machine that replies to calls; and on the store and the reference model, with the
-- statements.
pub mod Rounds
pub mod Dispatch
-- Serializability of the code (demand 3).
pub mod SerializabilityOfCode
-- What follows from them.
pub mod Corollaries
pub mod DispatchEdgeCases
-- Values of which the predicates of Dispatch are false.
pub mod DispatchCounterexamples
