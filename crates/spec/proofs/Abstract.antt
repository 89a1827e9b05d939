-- The abstract store and the reference model agree, and the granted transactions have a serial order. In reading order; the
-- numbers are the steps of "The idea of the proof" in docs/PROOFS.md.

-- ---- the abstract store, and laws of lists

-- The abstract store: marks and flags, but no buffers. A proof device that nobody has to believe.
pub mod AbstractStore
-- One program after another, what a list of items holds, a step of a stale transaction.
pub mod Programs
-- Entries and their comparison, settings and what they set.
pub mod Lists
--
-- ---- 1. A step asks
--
-- A step that asks for nothing on which two sets of committed values differ does the same on both, the second with no shorter
-- length.
pub mod Steady
-- What a Read gives and asks for: the bytes of a fetch, and the length after them where it gave fewer than wanted.
pub mod Gathers
-- A commit sets a length to no less than it was.
pub mod Lengths
--
-- ---- 2. The invariant
--
-- Laws of the run in isolation.
pub mod Lone
-- A descriptor stands Known after an accepted step exactly where it stood so before or its offset was asked for (used by step 3,
-- too).
pub mod Known
-- The invariant of an open transaction: its run in isolation is the recorded one, unless an item that it sighted was set since.
pub mod RecordedRuns
-- Every call of the reference model keeps the invariant.
pub mod PlainInvariant
--
-- ---- 3. Stale is an entry with a new version
--
-- A Commit is refused as stale exactly where the two lists of its transaction differ.
pub mod Commits
--
-- ---- 4. Model and abstract store agree
--
-- F-14: machines that agree on what the best order asks give the same reply.
pub mod OrderReplies
-- The abstract store is a function of the reference model, and every call gives the same reply on both.
pub mod SameReplies
-- The serial order as runs in isolation, one after the other: a proof device.
pub mod Alone
-- 8. Undo, too: the granted transactions, run in isolation in the order of their grants, do the same and leave the same.
pub mod SerialOrder
-- The serial order starts where the list of calls does, unless the machine had something to undo there.
pub mod Starts
-- 7. Windows, too (`never-closed`): the granted transactions, run again as a list of calls, give what they gave and are granted.
pub mod Rerun
--
-- ---- 5. One moment
--
-- F-7: what an accepted Read or GetFilePointer gave is what the run in isolation gives at that moment.
pub mod Moments
--
-- ---- the claims together
--
-- Serializability between the abstract store and the reference model, for every list of calls from Fresh.
pub mod AbstractSerializability
-- F-14: only an open transaction without a byte for a closed file is granted, and no Commit of another one changes that.
pub mod ClosedCommits
