-- `take_piece` meets its contract. The loop's invariant: the end of the piece that is reached from here is the
-- one that was reached from its start. Assumes nothing.
use mathlib.Core.{Path.{◌≡◌}}
use lib.ListN.{length, take, drop}
use Prim.Native.Nat.{◌-◌, ◌≤◌}
use Rattle.store.specs.Kept.{machine_in}
use Rattle.text_log.specs.Replay.{replaying}
use Rattle.text_lines.{specs.Programs.{at_end, within}}
use Rattle.text_replay.specs.{Bounds.Rooms, Turns.replay_state_in}
use Rattle.text_replay_pieces.specs.Bounds.{PiecesResting}
use Rattle.replay.proofs.take_piece.Given as goal

abbrev pub invariant-loop-p : goal.invariant-loop-p
invariant-loop-p l = PiecesResting l.p × (l.p.at ≤ length l.piece) × (length l.line ≡ 8238) × Rooms l.bytes l.reader l.out × (at_end replaying
    (within (replay_state_in l.initial.p (machine_in l.initial.store) l.initial.out) (take l.initial.p.pending l.initial.line) l.piece) ≡ at_end
    replaying
    (within (replay_state_in l.p (machine_in l.store) l.out) (take l.p.pending l.line) (drop l.p.at l.piece)))

abbrev pub decreases-loop-p : goal.decreases-loop-p
decreases-loop-p l =
    length l.piece - l.p.at
