pub mod Answer
pub mod Examples
pub mod OrderStatements
pub mod OrderTable
