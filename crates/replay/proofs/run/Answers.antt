-- `run` meets its contract. The loop's invariant: no output waits, the buffers keep their lengths, and state,
-- buffers and counts are where the pieces so far led. Assumes nothing.
use mathlib.Core.{Bool.{false≢true}, Path.{refl}}
use native.Mathlib.Omega.{arith}
use Rattle.buffers.specs.Parts.{cut}
use Rattle.text_log.specs.Replay.{replaying}
use Rattle.text_lines.proofs.{Passing.on, WholeRun.{reached-first, reached-more}}
use Rattle.replay.proofs.WholeRun.{ran-to-end}
use Rattle.replay.proofs.run.Goals as goal

pub loop-init : goal.loop-init
unfolding cut
loop-init c = let p = c.requires in let r = p.1 in (
  record { pending = omega arith; waiting = refl; answer = record { starts = omega arith; ends = omega arith } },
  p.0,
  record { written = r.written; readable = r.readable; printable = r.printable },
  refl,
  reached-first replaying _,
  λ h. absurd (false≢true h),
)

pub loop-preserved : goal.loop-preserved
loop-preserved c = let i = c.loop.invariant in let k = c.turn-p.auto in let t = c.turn-p.ensures in (
  t.0,
  omega (arith, i.1, k),
  record {
    written = omega (arith, i.2.written, k);
    readable = omega (arith, i.2.readable, k);
    printable = omega (arith, i.2.printable, k);
  },
  omega (arith, i.3, k),
  reached-more replaying _ _ _ _ _ i.4 (t.1 (on c.turn-p.result.goes c.if-not-p.false)).1,
  λ h. ran-to-end _ _ _ _ _ i.4 (t.2 h).1,
)

pub returns-then-not-p : goal.returns-then-not-p
returns-then-not-p c = let i = c.loop.invariant in let t = c.turn-p.ensures in λ h. ran-to-end _ _ _ _ _ i.4 (t.2 h).1
