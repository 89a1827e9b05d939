-- `take_piece` meets its contract. The loop's invariant: the end of the piece that is reached from here is the one that was
-- reached from its start. Assumes nothing.
use mathlib.Core.{Path.{◌≡◌}}
use lib.ListN.{length, take, drop}
use Prim.Native.Nat.{◌-◌, ◌≤◌}
use Rattle.store.specs.Kept.{machine_in}
use Rattle.trace.specs.{Bounds.{TraceResting, TraceRoom}, Transcript.{store_trace, under}}
use Rattle.text_lines.{specs.Programs.at_end}
use Rattle.trace.proofs.take_piece.Given as goal

abbrev pub invariant-loop-progress : goal.invariant-loop-progress
invariant-loop-progress l =
    TraceResting l.progress × (l.progress.at ≤ length l.piece) × TraceRoom l.reader l.out × (length l.line ≡ 129) × (at_end store_trace
    (under (machine_in l.initial.store) l.initial.reader (take l.initial.progress.pending l.initial.line) l.piece) ≡ at_end store_trace
    (under (machine_in l.store) l.reader (take l.progress.pending l.line) (drop l.progress.at l.piece)))

abbrev pub decreases-loop-progress : goal.decreases-loop-progress
decreases-loop-progress l = length l.piece - l.progress.at
