pub mod RestoreLaws
pub mod UndoRules
