-- The progress of a run, and the buffers that it has to fit.
use Rattle.std.specs.Prelude.{List, ◌≡◌, length, ℕ, ◌≤◌, ◌<◌}
use Rattle.limits.specs.Limits.{file_bytes}
use Rattle.trace.specs.declared.answering.TraceProgress.{TraceProgress}

-- Before a line is answered, in a piece of that size; and between pieces, when no output is pending.
pub record TraceProgressIn (c : TraceProgress) (size : ℕ) : Type 0 where
  pub pending : c.pending ≤ 129
  pub waiting : c.waiting ≤ 57000
  pub inside : c.at ≤ size

pub record TraceResting (c : TraceProgress) : Type 0 where
  pub pending : c.pending ≤ 129
  pub waiting : c.waiting ≡ 0

-- After it: further on in the piece, with no more output than the buffer has.
pub record TraceOnward (c r : TraceProgress) (size room : ℕ) : Type 0 where
  pub pending : r.pending ≤ 129
  pub waiting : r.waiting ≤ room
  pub inside : r.at ≤ size
  pub past : c.at < size → c.at < r.at

-- 02, F-5: "The reader's buffer has 4,096 bytes." [R-19.1]
pub record TraceRoom (reader out : List ℕ) : Type 0 where
  pub readable : length reader ≡ file_bytes
  pub printable : length out ≡ 65536
