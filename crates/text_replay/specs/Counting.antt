-- How differences from a log are counted.
use Rattle.std.specs.Prelude.{cond, List, ◌≡◌, ℕ, is_some}
use Rattle.text_log.specs.Answers.{same_bytes}
use Rattle.text_log.specs.Replay.{one_more}
use Rattle.text_replay.specs.declared.answering.ReplayProgress.{ReplayProgress}

-- After an answer of the log was compared with the one that was printed last: a difference is counted, and
-- nothing else changes that a line
-- needs.
pub record CountsDifference (p r : ReplayProgress) (text answer : List ℕ) : Type 0 where
  pub differing : r.differing.count ≡ cond (same_bytes text answer) p.differing.count (one_more p.differing.count)
  pub malformed : r.malformed.count ≡ p.malformed.count
  pub ended : is_some r.ended ≡ is_some p.ended
  pub pending : r.pending ≡ p.pending
  pub at : r.at ≡ p.at
  pub waiting : r.waiting ≡ p.waiting
  pub starts : r.from ≡ p.from
  pub ends : r.end ≡ p.end
