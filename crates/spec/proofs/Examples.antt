-- Examples, computed from the definitions, in reading order.

-- Every definition of the rules that the examples compute with, opened under one name.
pub mod Opened
-- The situations of the scope, and edge cases of both papers, hold of the rules.
pub mod Situations
-- Each predicate of the statements is false of the values of specs/Counterexamples.antt.
pub mod Counterexamples
