-- What a line of a log (docs/CALLLOG.md) does to a store.
use Rattle.std.specs.Prelude.{Bool, true, false, cond, List, ◌≡◌, eqb, ℤ, ℕ}
use Rattle.state.specs.Outcomes.{done_answer}
use Rattle.spec.specs.Machine.{Machine}
use Rattle.spec.specs.Calls.{Turn, answer_with}
use Rattle.spec.specs.Promises.{Lent, handed}
use Rattle.text_log.specs.LogLines.{LogEntry, another, comment, expects, version, fresh, calls, call_in}
use Rattle.text_log.specs.Reading.{log_entry_of}
use Rattle.text_log.specs.declared.parsing.ParsedEntry.{ParsedEntry}
use Rattle.text_replay.specs.Performing.{turn_of}
use Rattle.c_codes.specs.Codes.{AnswersAsCode}

-- A line that asks for nothing: a comment, an empty line, an answer, and the version of this format.
unfoldable pub asks_nothing : LogEntry → Bool
asks_nothing another = false
asks_nothing comment = true
asks_nothing expects = true
asks_nothing (version v) = eqb v 1
asks_nothing (fresh files) = false
asks_nothing (calls c) = false

-- The same of what was parsed, whatever the buffer for bytes holds.
abbrev pub AsksNothing : ParsedEntry → Bool → Type 0
AsksNothing said r = (bytes : List ℕ) → r ≡ asks_nothing (log_entry_of said bytes)

-- The turn of the store for a line: 0 and nothing else where it asks for nothing, else that of its call, or
-- 17 for a line of another form or version.
unfoldable pub line_rule : LogEntry → Machine → Turn
line_rule e m = cond (asks_nothing e) (answer_with done_answer m) (turn_of e m)

-- The promise: the code of that turn's answer; state and buffers are those that the turn leaves. The bytes
-- that a Read gives go nowhere.
abbrev pub ReplaysLine : List ℕ → Lent → Lent → Lent → Lent → Lent → ℤ → Type 0
ReplaysLine line state files logs marks undo r =
    AnswersAsCode (line_rule (call_in line)) state files logs marks undo r
    (line_rule (call_in line) (handed state files logs marks undo)).reply.buffer
