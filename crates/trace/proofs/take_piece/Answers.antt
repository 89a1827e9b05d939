-- `take_piece` meets its contract. The loop's invariant: the end of the piece that is reached from here is the one that was
-- reached from its start. Assumes nothing.
use mathlib.Core.{Path.{◌∙◌}}
use lib.ListN.{drop_of_length-le}
use Rattle.trace.specs.{Transcript.{store_trace}}
use Rattle.text_lines.{proofs.Passing.{end_of}}
use Rattle.trace.proofs.take_piece.Goals as goal

pub returns : goal.returns
returns c = let loop = c.loop-progress in
    let piece = c.args.piece.now in
    (loop.invariant.0, λ e. loop.invariant.4 ∙ end_of store_trace _ _ _ (drop_of_length-le piece c.loop-progress-test.false))
