-- The types of the code in the rounds' terms, the dispatcher's promise, those of its steps, and examples.
pub mod Types
pub mod Promise
-- The promise as a link of serializability of the code.
pub mod Link
pub mod Steps
pub mod Examples
