-- What is kept between lines of a piece.
use Rattle.std.specs.Prelude.{◌≡◌, ℕ, ◌≤◌, ◌<◌}
use Rattle.text_replay.specs.Bounds.{AnswerIn}
use Rattle.text_replay.specs.declared.answering.ReplayProgress.{ReplayProgress}

-- Before a line is performed, in a piece of that size; and between pieces, when no output waits.
pub record ProgressIn (p : ReplayProgress) (size : ℕ) : Type 0 where
  pub pending : p.pending ≤ 8238
  pub waiting : p.waiting ≤ 40000
  pub inside : p.at ≤ size
  pub answer : AnswerIn p

pub record PiecesResting (p : ReplayProgress) : Type 0 where
  pub pending : p.pending ≤ 8238
  pub waiting : p.waiting ≡ 0
  pub answer : AnswerIn p

-- After it: further on in the piece, with no more output than the buffer has.
pub record Onward (p r : ReplayProgress) (size : ℕ) : Type 0 where
  pub pending : r.pending ≤ 8238
  pub waiting : r.waiting ≤ 131072
  pub inside : r.at ≤ size
  pub past : p.at < size → p.at < r.at
  pub answer : AnswerIn r
