pub mod JournalLaws
pub mod LayoutLaws
pub mod UndoLaws
pub mod Filled
mod ReaderLaws
pub mod Examples
