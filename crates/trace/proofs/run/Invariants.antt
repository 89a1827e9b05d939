-- The loop's invariant: no output waits, the buffers keep their lengths, and the store is where the pieces so far led.
use mathlib.Core.{Bool.{true}, List.[], Path.{◌≡◌}}
use lib.ListN.{length, take}
use Rattle.store.specs.Kept.{machine_in}
use Rattle.text_lines.{specs.WholeRun.{PiecesReach, LinesLead}}
use Rattle.trace.specs.{Transcript.{store_trace, under}, Bounds.{TraceResting, TraceRoom}}
use Rattle.trace.proofs.run.Given as goal

abbrev pub invariant-loop : goal.invariant-loop
invariant-loop l =
    TraceResting l.progress × TraceRoom l.reader l.out × (length l.line ≡ 129) × (length l.input ≡ length l.initial.input)
    × PiecesReach store_trace (record { machine = machine_in l.initial.store; reader = l.initial.reader })
    (under (machine_in l.store) l.reader (take l.progress.pending l.line) []) × (l.progress.complete ≡ true
    → LinesLead store_trace (record { machine = machine_in l.initial.store; reader = l.initial.reader })
    (record { machine = machine_in l.store; reader = l.reader }))
