-- F-1: the list of the places that a transaction's writes cover, in reading order.

-- Lists of intervals: which places lie in them, when two are equal, how the list of a set of places begins.
pub mod IntervalLaws
-- What F-1 says of the list: it lists its places, is proper, and is the only such list.
pub mod PlacesLaws
-- The examples of intervals, computed.
pub mod Examples
