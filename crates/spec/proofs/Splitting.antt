-- F-12: one long write or two short ones, in reading order.

-- Two lists of writes that differ by a split: the same latest write over a place, farthest end, settings and settled places.
pub mod Writes
-- A step of a transaction in which a write is split, beside the same step of one in which it is not.
pub mod Steps
-- The law: standing, sightings, later replies and the effect at Commit are the same.
pub mod SplitLaw
