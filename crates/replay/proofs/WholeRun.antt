-- What a whole run puts out is the text of the lines of its input. Assumes nothing.
use mathlib.Core.{List.{List, []}, Path.refl}
use Prim.Native.Nat.{ℕ}
use Rattle.text_log.{specs.Replay.{ReplayState, replaying}, proofs.TruncatedLines.log-truncated-is-enough}
use Rattle.text_lines.specs.{Programs.{within, at_end}, WholeRun.{PiecesReach, LinesLead}}
use Rattle.text_lines.proofs.WholeRun.{whole_run, reached-more, ran}
use Rattle.replay.specs.WholeRun.{RunEnds, ReplayWholeRun}

pub replay-whole-run : ReplayWholeRun
replay-whole-run = whole_run replaying log-truncated-is-enough

-- the end of a run that pieces of input led to
pub ran-to-end : (k₀ k : ReplayState) (pending piece : List ℕ) (k' : ReplayState)
    → PiecesReach replaying k₀ (within k pending []) → RunEnds (within k pending piece) k' → LinesLead replaying k₀ k'
ran-to-end k₀ k pending piece k' r e = unfold at_end in let u = within k pending piece in
    ran replaying log-truncated-is-enough k₀ (at_end replaying u).state (at_end replaying u).pending e.text k'
    (reached-more replaying k₀ k pending piece _ r refl) e.answered
