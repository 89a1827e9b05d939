-- The theorems, in reading order: each proves a statement of specs/.

-- ---- refusals (demand 1)

-- An accepted step answers, a refused one leaves everything.
pub mod Answers
-- A call is refused with the number of the first of its tests that fails, and with no other.
pub mod RefusalOrder
-- What a refused call leaves.
pub mod Refusals
-- A sound store meets neither 1 nor 2.
pub mod Ranges
--
-- ---- serializability (demand 3)
--
-- `serializability`, about the rules on state and buffers, and `serializability-of-code`, about calls that keep their promises.
pub mod Serializability
-- Situations and edge cases hold of every freshly made store: by serializability its replies and values are the reference
-- model's.
pub mod Situations
--
-- ---- stores that are old, or were saved and loaded
--
-- A store that went down and came back answers as one on which every transaction was aborted.
pub mod Recovery
-- A store at rest answers as a young one with its files, offsets, lengths and windows; serializability from every store at rest.
pub mod Age
--
-- ---- buffers, marks and lengths
--
-- Which calls touch which buffer.
pub mod Buffers
-- F-9: a call leaves the marks of all other transactions.
pub mod Marks
-- F-9: stores whose marks name the same pairs answer alike.
pub mod MarkPairs
-- F-8: lengths never shrink but by undo, are at most 4,096, and beyond them every byte is 0.
pub mod Lengths
--
-- ---- windows, undo, the best order
--
-- F-11: no grant puts a byte into a file that is closed at its minute.
pub mod ClosedFiles
-- F-13: after a grant, calls without another and an accepted undo, files, offsets and lengths are what the grant found.
pub mod UndoRestores
-- F-14: what holds of the best order's answer, on every store that meets neither 1 nor 2.
pub mod BestOrder
