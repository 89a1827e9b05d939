-- `admission::grant_in` meets its contract.
use mathlib.Core.{Path.{◌≡◌, ap, ◌∙◌}}
use lib.Dec.{eqb}
use native.Mathlib.Omega.{arith}
use Rattle.state.specs.{declared.journal.WriteRecord.WriteRecord}
use Rattle.admission.specs.{Admission.{grant_passes}}
use Rattle.admission.proofs.Laws.{below-zero, below_more, below_fails}
use Rattle.admission.proofs.Tests.{high-out, landed-out, landed-passes, lengths_none, lengths-more, and-fails, and_last}
use mathlib.Core.Bool.{not}
use Rattle.admission.proofs.grant_in.Goals as goal

pub loop-k-init : goal.loop-k-init
loop-k-init c = (below-zero _, lengths_none _ _, omega arith)

-- A descriptor above 15.
pub returns-then-from-gt-LAST_DESCRIPTOR : goal.returns-then-from-gt-LAST_DESCRIPTOR
unfolding grant_passes
returns-then-from-gt-LAST_DESCRIPTOR c = and-fails _ _ (below_fails _ c.loop-k.k _ (omega arith)
    (high-out _ _ c.record_at-w.ensures (omega (arith, c.from.ensures))))

-- No place, or one past the file's end.
pub returns-then-not-placed_in : goal.returns-then-not-placed_in
unfolding grant_passes
returns-then-not-placed_in c = and-fails _ _ (below_fails _ c.loop-k.k _ (omega arith)
    (landed-out _ _ c.record_at-w.ensures (omega (arith, c.from.ensures)) _ c.placed_in.ensures (ap not c.if-not-placed_in.true)))

pub loop-k-preserved : goal.loop-k-preserved
loop-k-preserved c = let w = c.record_at-w.ensures in (
  below_more _ _ c.loop-k.invariant.0 (landed-passes _ _ w (omega (arith, c.from.ensures)) _ c.placed_in.ensures
      (ap not c.if-not-placed_in.false)),
  lengths-more _ _ _ _ _ c.loop-k.invariant.1 (c.from-sum.ensures ∙ ap (λ (v : WriteRecord). v.length) w),
  omega arith,
)

pub returns : goal.returns
unfolding grant_passes
returns c = let i = c.loop-k in let a = c.args in let e : i.k ≡ a.records = omega arith in
    and_last _ _ _ (rw e at i.invariant.0) (ap (λ n. eqb n a.size) (rw e at i.invariant.1))
