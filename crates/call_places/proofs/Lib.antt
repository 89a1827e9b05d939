-- F-1, the list of the places that a transaction's writes cover: two ways of the code, and the call. In reading order.

-- The list of a set of places, interval by interval, and its bytes.
pub mod ListLaws
-- A list of intervals that goes on at its end, and the list of a set with places more past it.
pub mod EndLaws
-- What the walks over write records tell: which records have no place yet, and which places of a run are covered.
pub mod CoverLaws
-- One write record more in ascending order: what the pass has met is the list of what is covered so far.
pub mod SweepLaws
-- Write records in ascending order: the pass over them meets the intervals of the list, in its order.
pub mod AscendingLaws
-- The places that a transaction's write records cover are those that its writes cover; likewise the writes without a place.
pub mod MachineLaws
-- The rule of the call, after each of its tests.
pub mod PlacesRules
