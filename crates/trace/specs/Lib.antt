-- What a line is answered.
pub mod Answers
-- What lines are answered, one after the other.
pub mod Transcript
-- A whole run.
pub mod WholeRun
-- That the progress of a run fits its buffers.
pub mod Bounds
-- Traces and what they print.
pub mod Examples
