-- The loop's invariant: the front of the record has the numbers so far. Assumes nothing.
use mathlib.Core.Path.{◌≡◌}
use lib.ListN.{length, take}
use Rattle.buffers.specs.Parts.{tabulate}
use Rattle.state.specs.Layout.{state_length}
use Rattle.replay.specs.Blocks.{block_word_at}
use Rattle.replay.proofs.blocks.put_numbers.Given as goal

abbrev pub invariant-loop-i : goal.invariant-loop-i
invariant-loop-i l = (length l.state ≡ state_length) × (take l.i l.state
    ≡ tabulate (block_word_at l.bytes) l.i)
