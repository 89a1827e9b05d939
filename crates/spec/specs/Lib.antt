-- The meaning of the store, in the order in which it is read. A sentence in quotation marks is the papers';
-- [R-9.3] after it is the paragraph of docs/RULES.md that says it in our own words.

-- Calls and replies as data.
pub mod Messages
-- One transaction: what can be sighted; settling; reading; Seek, Write, GetFilePointer and Read. (The table
-- of standings is standings/specs/Table.antt.)
pub mod Items
pub mod Transactions
pub mod Reading
pub mod Steps
-- What a commit sets.
pub mod Commits
-- What a transaction's writes cover (paper 02, F-1).
pub mod Intervals
pub mod IntervalList
pub mod Places
-- Which Commits have a byte for a closed file (paper 02, F-11; when a file is open is
-- windows/specs/Windows.antt).
pub mod Windows
-- The best order to commit in (paper 02, F-14; the orders of a list are spec_orders/specs/Orders.antt).
pub mod OrderReply
-- The reference model (01's plain machine): sightings with their setters, the run in isolation (01's lone
-- run), the machine, its grants and their second run; and Serializability (demand 3), the claim about a store
-- that is compared with it. Up to here nothing is said of a state or of buffers.
pub mod Sightings
pub mod LoneRuns
pub mod Plain
pub mod Grants
pub mod Serializability
-- The store: the state and its buffers, what a grant saves and how it is undone (paper 02, F-13), the rules
-- of the twelve calls, and how promises cite them.
pub mod Machine
pub mod Undo
pub mod Landing
pub mod Calls
pub mod Promises
-- The statements about it. (The tests of each call in their order belong to Refusals, demand 1.)
pub mod RefusalOrder
pub mod Refusals
pub mod SerializabilityOfStore
pub mod Recovery
pub mod Young
pub mod Age
pub mod MarkPairs
pub mod Buffers
pub mod Lengths
pub mod ClosedFiles
pub mod Splitting
pub mod UndoRestores
pub mod BestOrder
-- What follows from them.
pub mod Corollaries
-- The situations, and edge cases of both papers; what the statements are false of.
pub mod Setup
pub mod Situations
pub mod EdgeCases
pub mod LaterEdgeCases
pub mod IntervalExamples
pub mod Counterexamples
