-- `rounds::all_over` meets its contract. The loop's invariant: those below k are over.
use mathlib.Core.{Bool.{not}, Path.{sym, ap, ◌∙◌}}
use native.Mathlib.Omega.{arith}
use Rattle.admission.{proofs.Laws.{below-zero, below_more, below_fails}}
use Rattle.dispatcher.proofs.rounds.all_over.Goals as goal

pub loop-k-init : goal.loop-k-init
loop-k-init c = below-zero _

pub returns-then-goes_on : goal.returns-then-goes_on
returns-then-goes_on c = let goes = sym c.goes_on.ensures ∙ c.if-goes_on.true in
    sym (below_fails _ c.loop-k.k _ c.loop-k-test.true (ap not goes))

pub loop-k-preserved : goal.loop-k-preserved
loop-k-preserved c =
    below_more _ _ c.loop-k.invariant (ap not (sym c.goes_on.ensures ∙ c.if-goes_on.false))
