-- The form of a line.
pub mod Grammar
-- What the parser's answers stand for.
pub mod Parsing
-- Lines and what they ask.
pub mod Examples
