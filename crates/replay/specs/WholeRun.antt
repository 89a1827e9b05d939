-- A whole run of a replay. What is said of any program that works line by line is in
-- text_lines/specs/WholeRun.antt, what a replay does with a line in text_log/specs/Replay.antt; whether
-- `flush` writes what is handed over to it
-- no contract says.
use Rattle.std.specs.Prelude.{List, [], ℕ}
use Rattle.text_log.specs.Replay.{ReplayState, replaying, first_state}
use Rattle.text_lines.specs.Lines.{last_line}
use Rattle.text_lines.specs.Programs.{Under, Answered, at_end}
use Rattle.text_lines.specs.WholeRun.{PiecesReach, WholeRun}
use Rattle.spec.specs.Machine.{Machine}

-- Some pieces of input lead to u from state and buffers, freshly made or saved. Each turn of the program asks
-- this of what it is handed.
pub record ReachedFrom (u : Under ReplayState) : Type 0 where
  pub machine : Machine
  pub reached : PiecesReach replaying (first_state machine) u

-- The run ends with the piece that u is in: k is the replay's state after the line that the end of the input
-- ends. After another version nothing comes of that line.
pub record RunEnds (u : Under ReplayState) (k : ReplayState) : Type 0 where
  pub text : List ℕ
  pub answered : Answered replaying (last_line (at_end replaying u).pending)
      (at_end replaying u).state [] k text

-- Proved in proofs/WholeRun.antt: what is handed over to be written is the text of the lines of the input,
-- however it was cut, from any state and buffers; and the counts of differences and of lines of another form
-- are those of the definition.
abbrev pub ReplayWholeRun : Type 0
ReplayWholeRun = WholeRun replaying
