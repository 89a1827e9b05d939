-- A turn leads on by a piece, or to the end of the input.
use mathlib.Core.{Bool.{false≢true}, Path.{refl}}
use native.Mathlib.Omega.{arith}
use Rattle.spec.specs.{Calls.call}
use Rattle.text_lines.proofs.{WholeRun.{reached-first, reached-more, ran}, Passing.{on}}
use Rattle.trace.specs.{Transcript.{store_trace}}
use Rattle.trace.proofs.TruncatedLines.{trace-truncated-is-enough}
use Rattle.trace.proofs.run.Goals as goal

pub loop-init : goal.loop-init
loop-init c = let p = c.requires in (
  record { pending = omega arith; waiting = refl },
  record { readable = p.1.0.readable; printable = p.1.0.printable },
  p.1.1,
  refl,
  reached-first store_trace _,
  λ h. absurd (false≢true h),
)

pub returns-then-not-progress : goal.returns-then-not-progress
returns-then-not-progress c = λ h. ran store_trace (trace-truncated-is-enough call) _ _ _ _ _ c.loop.invariant.4
    (c.turn-progress.ensures.2 h).1

pub loop-preserved : goal.loop-preserved
loop-preserved c = let i = c.loop.invariant in let k = c.turn-progress.auto in let t = c.turn-progress.ensures in (
  t.0,
  record { readable = omega (arith, i.1.readable, k); printable = omega (arith, i.1.printable, k) },
  omega (arith, k, i.2),
  omega (arith, k, i.3),
  reached-more store_trace _ _ _ _ _ i.4 (t.1 (on c.turn-progress.result.goes c.if-not-progress.false)).1,
  λ h. ran store_trace (trace-truncated-is-enough call) _ _ _ _ _ i.4 (t.2 h).1,
)
