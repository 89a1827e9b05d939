-- The lines of a call log.
pub mod LogLines
-- What is proved of them.
pub mod Statements
-- The lines of requests.
pub mod Recorded
-- What a call shows, and that a log runs again alike.
pub mod Replays
-- What the reader's answers stand for.
pub mod Reading
-- A list of numbers as octets.
pub mod Octets
-- Lines and what they say.
pub mod Examples
-- The lines of answers.
pub mod Answers
-- What a replay does, and that it does what was recorded.
pub mod Replay
