-- The lines of a call log: a printed line is read as its call, and recorded lines, replayed, are answered as the calls were. In
-- reading order.

-- ---- printing

-- Printable bytes.
pub mod Printable
-- The texts that are put for a call.
pub mod Texts
-- The line of a Write.
pub mod WriteTexts
-- The texts of answers.
pub mod AnswerTexts
--
-- ---- reading
--
-- What a line of numbers asks, by how many they are.
pub mod ReadingLaws
-- A call's line is read as that call.
pub mod RoundTrip
-- A Write of more bytes than a line holds.
pub mod Clipping
-- A list that is refused for its length is refused as its front.
pub mod Cutting
-- A line of a trace says in a call log what it says there.
pub mod Traces
-- What specs/ states of a call log.
pub mod Holds
--
-- ---- recording and replaying
--
-- What the buffer for an answer holds beforehand does not count.
pub mod Again
-- A buffer of 4,097 bytes serves for every Read.
pub mod Rooms
-- The line that is put for a request says a call that comes to the same.
pub mod Recorder
-- A replay does what was recorded.
pub mod Replayed
-- The bytes that a replay holds of a long line do what the whole line does, and nothing comes of lines after another version.
pub mod TruncatedLines
--
-- The examples of specs/, computed.
pub mod Examples
