-- `fill` meets its contract. The loop's invariant: what waits and what is to come make the text that was to come at the start,
-- and more waits only when the place in the piece has moved on. Assumes nothing.
use mathlib.Core.{List.[], Path.◌≡◌}
use lib.ListN.{length, take, drop}
use Prim.Native.Nat.{◌-◌, ◌*◌, ◌≤◌}
use Rattle.store.specs.Kept.{machine_in}
use Rattle.trace.specs.{Bounds.TraceRoom, Transcript.{store_trace, under}}
use Rattle.text_lines.{specs.Programs.Passes}
use Rattle.trace.proofs.answering.fill.Given as goal

abbrev pub invariant-loop-progress : goal.invariant-loop-progress
invariant-loop-progress l = (l.progress.pending ≤ 129) × (l.progress.at ≤ length l.piece) × (l.initial.progress.at ≤ l.progress.at)
    × (l.progress.waiting ≤ 65536 * (l.progress.at - l.initial.progress.at)) × (l.progress.waiting ≤ 65536) × TraceRoom l.reader
    l.out × (length l.line ≡ 129) × Passes store_trace (under (machine_in l.initial.store) l.initial.reader
    (take l.initial.progress.pending l.initial.line) (drop l.initial.progress.at l.piece)) [] (under (machine_in l.store) l.reader
    (take l.progress.pending l.line) (drop l.progress.at l.piece)) (take l.progress.waiting l.out)

abbrev pub decreases-loop-progress : goal.decreases-loop-progress
decreases-loop-progress l = length l.piece - l.progress.at
