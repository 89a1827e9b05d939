-- What stays where output is written.
use Rattle.std.specs.Prelude.{◌≡◌, is_some}
use Rattle.text_replay.specs.declared.answering.ReplayProgress.{ReplayProgress}

-- After output was written: none is pending, and what a line needs stays.
pub record Flushed (p r : ReplayProgress) : Type 0 where
  pub pending : r.pending ≡ p.pending
  pub at : r.at ≡ p.at
  pub waiting : r.waiting ≡ 0
  pub starts : r.from ≡ p.from
  pub ends : r.end ≡ p.end
  pub malformed : r.malformed.count ≡ p.malformed.count
  pub differing : r.differing.count ≡ p.differing.count
  pub ended : is_some r.ended ≡ is_some p.ended
