-- Laws that join the state to its meaning, and those of the tests before a call, in reading order.

-- What a state means has the lengths that its arrays have.
pub mod Shapes
-- What is committed decides what a store with nothing open answers: `committed-decides`.
pub mod Idle
-- A standing that check 2 let through has room in its two numbers.
pub mod Fitting
-- From numbers to meaning: a begun transaction to which a call was admitted, and its writes decoded one by one.
pub mod Decoded
-- From meaning to numbers: a transaction put back as it was, with one descriptor changed, with one write more.
pub mod Encoded
-- Settling one descriptor after the other is settling them all at once.
pub mod Settling
-- The rules of a call after each of its tests: refused, or let through.
pub mod TurnLaws
