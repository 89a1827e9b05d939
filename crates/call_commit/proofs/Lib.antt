pub mod CommitRules
