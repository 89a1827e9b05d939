-- What is kept between lines, and the buffers that it has to fit.
use Rattle.std.specs.Prelude.{List, ◌≡◌, length, ℕ, ◌≤◌}
use Rattle.text_replay.specs.declared.answering.ReplayProgress.{ReplayProgress}

-- The answer that was printed last lies in the output buffer.
pub record AnswerIn (p : ReplayProgress) : Type 0 where
  pub starts : p.from ≤ p.end
  pub ends : p.end ≤ 131072

-- After a line: as many bytes held, the same place in the piece.
pub record LineTaken (p r : ReplayProgress) : Type 0 where
  pub pending : r.pending ≡ p.pending
  pub at : r.at ≡ p.at
  pub waiting : r.waiting ≤ 131072
  pub answer : AnswerIn r

pub record Rooms (bytes reader out : List ℕ) : Type 0 where
  pub written : length bytes ≡ 4097
  pub readable : length reader ≡ 4097
  pub printable : length out ≡ 131072
