-- The lines that a recorder puts for requests.
use Rattle.std.specs.Prelude.{List, [], ◌∷◌, ◌++◌, replicate, take, ℕ}
use Rattle.requests.specs.declared.Request.{Request}
use Rattle.requests.specs.Requests.{call_of}
use Rattle.text_log.specs.LogLines.{line_of, most_written}

-- The line of a request's call, with the front of a Write's bytes and with the length of the buffer for an
-- answer.
unfoldable pub request_line : Request → List ℕ → ℕ → List ℕ
request_line q bytes room = line_of (call_of q (take most_written bytes) (replicate room 0))

-- .. and the line's end.
unfoldable pub recorded_line : Request → List ℕ → ℕ → List ℕ
recorded_line q bytes room = request_line q bytes room ++ (10 ∷ [])
