-- `admission::journals_in` meets its contract.
use mathlib.Core.{Path.{sym}}
use Rattle.admission.proofs.{Laws.{below-zero, below_more, below_at, below_fails, failed, test-held}}
use native.Mathlib.Omega.{arith}
use mathlib.Core.Bool.{not}
use mathlib.Core.Path.{ap}
use Rattle.admission.proofs.journals_in.Goals as goal

pub loop-t-init : goal.loop-t-init
loop-t-init c = below-zero _

pub journal_in-requires : goal.journal_in-requires
journal_in-requires c = let pre = c.requires in
    (omega arith, below_at _ 8 _ pre.0 (omega arith), below_at _ 8 _ pre.1 (omega arith))

pub returns-then-not-journal_in : goal.returns-then-not-journal_in
returns-then-not-journal_in c = sym (below_fails _ c.loop-t.t 8 (omega arith)
    (failed c.journal_in.ensures (ap not c.if-not-journal_in.true)))

pub loop-t-preserved : goal.loop-t-preserved
loop-t-preserved c = below_more _ _ c.loop-t.invariant (test-held c.journal_in.ensures (ap not c.if-not-journal_in.false))
