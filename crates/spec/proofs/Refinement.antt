-- The rules on state and buffers are those of the abstract store. Step 6 of "The idea of the proof" in docs/PROOFS.md, with the
-- state's part of steps 7 and 8, in reading order.

-- ---- 6. State and buffers refine the abstract store: the relation

-- The abstract store that a state and its buffers stand for (`view`), and what is known of every store reached from Fresh.
pub mod Relation
-- Lists that are made by index, and sums over an index.
pub mod IndexedLists
-- A call on a sound store meets neither 1 nor 2, and meets 3 and 4 where the abstract store does.
pub mod Admissions
--
-- ---- ranges: what a step keeps
--
-- Standings and places stay in range: a law for each column of the table, and for settling.
pub mod StandingRanges
-- The writes of a transaction in range end no later than the file.
pub mod WriteEnds
-- Descriptors that a step settles are ones that the store has.
pub mod Chosen
-- An accepted step leaves a transaction in range and its writes with their bytes; a Write adds one.
pub mod StepPreserves
--
-- ---- decoding what was encoded
--
-- A transaction as state and logs hold it: in range, its writes' bytes one after the other in its log.
pub mod Decode
-- A transaction whose part of the state and of the logs is left as it was means what it meant.
pub mod Others
-- What undo would go back to, and where it stays as it is.
pub mod UndoValues
-- The state after transaction t has become y means y there and what it meant everywhere else; it stays in range.
pub mod Encode
--
-- ---- Seek, Write, GetFilePointer and Read
--
-- The logs after an accepted step: a Write's bytes directly after the data used, and no other byte changed.
pub mod Logged
-- The marks after sightings: transaction t's at the bytes sighted, and no other's.
pub mod Marks
-- Every item that a step asks for is one that the store has.
pub mod ItemsAsked
-- An accepted step: what state and buffers mean after it, and that they stay in range.
pub mod Accepted
-- The four calls: reply and store after it are the abstract store's.
pub mod StepTurn
--
-- ---- Begin, Commit and Abort
--
-- A state with other committed offsets, lengths and transactions: when its ranges hold, and which transactions mean the same in
-- it.
pub mod OtherCommitted
-- The store after transaction t has been reset or committed.
pub mod AfterReset
-- `reset`, of Begin, Abort and a Commit of a stale transaction: one seat changes.
pub mod Resets
-- All that a granted Commit sets lies inside the files buffer, or is an offset or a length of at most 4,096.
pub mod SettingsIn
-- Landing settings in the files buffer, the offsets and the lengths is landing them in the committed values.
pub mod Landing
-- A grant sets no byte beyond the length that it leaves: what was 0 there stays 0.
pub mod Zeros
-- Who has sighted what a commit sets: the flags and the octet of a granted Commit.
pub mod Conflicts
-- 8. Undo: the state and the undo log that a granted Commit leaves hold what it found.
pub mod UndoSaved
-- A granted Commit: the octet, the landed files and offsets, the flags of the others.
pub mod Grants
-- The three calls: reply and store after it are the abstract store's.
pub mod EndTurns
--
-- ---- the other calls
--
-- Fresh leaves a sound store, which stands for the abstract store's first.
pub mod FreshView
-- 7. Windows: the setting of a window is the abstract store's.
pub mod WindowTurn
-- 8. Undo is the abstract store's.
pub mod UndoTurn
-- F-14: the best order is the abstract store's.
pub mod OrderTurn
