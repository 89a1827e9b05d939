-- `replay_piece` meets its contract. The loop's invariant: what waits and what is to come make the text that was to
-- come at the start, and more waits only when the place in the piece has moved on. Assumes nothing.
use mathlib.Core.{List.[], Path.◌≡◌}
use lib.ListN.{length, take, drop}
use Prim.Native.Nat.{◌-◌, ◌*◌, ◌≤◌}
use Rattle.store.specs.Kept.{machine_in}
use Rattle.text_log.specs.Replay.{replaying}
use Rattle.text_lines.{specs.Programs.{Passes, within}}
use Rattle.text_replay.specs.{Bounds.{AnswerIn, Rooms}, Turns.replay_state_in}
use Rattle.text_replay_pieces.proofs.replay_piece.Given as goal

abbrev pub invariant-loop-p : goal.invariant-loop-p
invariant-loop-p l = (l.p.pending ≤ 8238) × (l.p.at ≤ length l.piece) × (l.initial.p.at ≤ l.p.at) × (l.p.waiting ≤ 131072 * (l.p.at - l.initial.p.at))
    × (l.p.waiting ≤ 131072) × AnswerIn l.p × (length l.line ≡ 8238) × Rooms l.bytes l.reader l.out × Passes replaying
    (within (replay_state_in l.initial.p (machine_in l.initial.store) l.initial.out) (take l.initial.p.pending l.initial.line)
    (drop l.initial.p.at l.piece)) [] (within (replay_state_in l.p (machine_in l.store) l.out) (take l.p.pending l.line)
    (drop l.p.at l.piece)) (take l.p.waiting l.out)

abbrev pub decreases-loop-p : goal.decreases-loop-p
decreases-loop-p l =
    length l.piece - l.p.at
