-- F-14, the best order to commit in: the code answers what the rules say, without simulating a Commit. In reading order.

-- ---- the orders of a list

-- Loops over a list: what is left to test, to count or to pass is the rest of it.
pub mod ListLaws
-- Permutation i in the factorial number system, one number after the other.
pub mod ArrangeLaws
-- The best of the orders tried, one order after the other.
pub mod BestLaws
--
-- ---- the table: whom a granted Commit would make stale
--
-- A table filled one member of a list after the other.
pub mod TableLoops
-- Whom a Commit makes stale at other committed values: it sets the same items, but for the lengths that it raises.
pub mod Hits
-- The committed offsets after a grant, and where 12 cannot come.
pub mod Offsets
-- In a store reached from Fresh every descriptor that stands Deferred or Moved has a write without a place.
pub mod Waiting
-- Commits of an order on the abstract store: each is decided by the table of the start.
pub mod Along
-- Where nobody stands Deferred or Moved, 12 cannot come, and one octet is enough.
pub mod ShortWay
-- `table-law`, on every state and buffers: a Commit is refused with 13 exactly where one granted before it has its bit.
pub mod TableLaw
--
-- ---- the call
--
-- What the code reads of a list's transactions is what the rules say of them; what an admitted list tells.
pub mod Admitted
-- A pass over an order, one Commit after the other.
pub mod PassLaws
-- The grants of an order, as the code counts them, are those of the rules.
pub mod Grading
-- The rules of the call after each of its tests.
pub mod CallRules
-- What the code answers is the reply of the rules.
pub mod Answered
-- Small examples, computed.
pub mod Examples
