-- What stays where output is written.
pub mod Bounds
-- A whole run.
pub mod WholeRun
-- The state in a saved block.
pub mod Blocks
