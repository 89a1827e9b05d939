-- `expect_line` meets its contract. Assumes nothing.
use Rattle.std.proofs.Common.{refl, arith}
use Rattle.buffers.specs.Parts.{cut}
use Rattle.text_replay.proofs.TurnLaws.{behind-two, counted-here, counted-compared}
use Rattle.text_replay.proofs.answering.expect_line.Goals as goal

pub returns : goal.returns
unfolding cut
returns c = let a = c.requires.1.0 in let e = c.expect.ensures in (
  record {
    pending = e.pending;
    at = e.at;
    waiting = omega (arith, e.waiting, c.requires.0);
    answer = record {
      starts = omega (arith, e.starts, e.ends, a.starts);
      ends = omega (arith, e.ends, a.ends);
    };
  },
  counted-compared _ _ _ _ (counted-here _ _ _ _ _ _ (behind-two c.args.line.now _ c.min.ensures) refl e),
)
