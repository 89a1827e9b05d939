-- `take_piece` meets its contract. The loop's invariant: the end of the piece that is reached from here is the
-- one that was reached from its start. Assumes nothing.
use mathlib.Core.{Path.{◌∙◌}}
use lib.ListN.{drop_of_length-le}
use Rattle.text_log.specs.Replay.{replaying}
use Rattle.text_lines.{proofs.Passing.{end_of}}
use Rattle.replay.proofs.take_piece.Goals as goal

pub returns : goal.returns
returns c = let loop = c in
    let piece = loop.args.piece.now in
    (loop.loop-p.invariant.0, λ e. loop.loop-p.invariant.4 ∙ end_of replaying _ _ _ (drop_of_length-le piece c.loop-p-test.false))
