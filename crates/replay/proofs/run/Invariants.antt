-- `run` meets its contract. The loop's invariant: no output waits, the buffers keep their lengths, and
-- state, buffers and counts are where the pieces so far led. Assumes nothing.
use mathlib.Core.{Bool.{true}, List.[], Path.{◌≡◌}}
use lib.ListN.{length, take}
use Rattle.store.specs.Kept.{machine_in}
use Rattle.text_log.specs.Replay.{replaying, first_state}
use Rattle.text_lines.specs.{Programs.within, WholeRun.{PiecesReach, LinesLead}}
use Rattle.text_replay.specs.{Bounds.Rooms, Turns.replay_state_in}
use Rattle.text_replay_pieces.specs.Bounds.{PiecesResting}
use Rattle.replay.proofs.run.Given as goal

abbrev pub invariant-loop : goal.invariant-loop
invariant-loop l = PiecesResting l.p × (length l.line ≡ 8238) × Rooms l.bytes l.reader l.out × (length l.input ≡ length
    l.initial.input) × PiecesReach replaying (first_state (machine_in l.initial.store))
    (within (replay_state_in l.p (machine_in l.store) l.out) (take l.p.pending l.line) [])
    × (l.p.complete ≡ true → LinesLead replaying (first_state (machine_in l.initial.store))
    (replay_state_in l.p (machine_in l.store) l.out))
