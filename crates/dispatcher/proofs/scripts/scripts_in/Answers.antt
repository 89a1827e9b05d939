-- `scripts::scripts_in` meets its contract.
use mathlib.Core.{Path.{refl, sym}}
use native.Mathlib.Omega.{arith}
use Rattle.admission.{proofs.Laws.{below-zero, below_more, failed, test-held}}
use Rattle.spec_dispatch.specs.Rounds.{script_in, scripts_in}
use Rattle.dispatcher.specs.Types.{scripts_of}
use Rattle.dispatcher.proofs.ScriptLaws.{counted-over, counted-fails, counted-passes}
use mathlib.Core.Bool.{not}
use mathlib.Core.Path.{ap}
use Rattle.dispatcher.proofs.scripts.scripts_in.Goals as goal

pub returns-then-scripts-gt-SCRIPTS : goal.returns-then-scripts-gt-SCRIPTS
returns-then-scripts-gt-SCRIPTS c = unfold scripts_in scripts_of in sym (counted-over _ 8 _ _ refl c.if-scripts-gt-SCRIPTS.true)

pub loop-k-init : goal.loop-k-init
loop-k-init c = below-zero _

pub returns-then-not-script_in : goal.returns-then-not-script_in
unfolding scripts_in scripts_of
returns-then-not-script_in c = sym (counted-fails _ 8 _ _ refl c.loop-k.k c.loop-k-test.true
    (failed c.script_in.ensures (ap not c.if-not-script_in.true)))

pub loop-k-preserved : goal.loop-k-preserved
loop-k-preserved c = below_more _ _ c.loop-k.invariant (test-held c.script_in.ensures (ap not c.if-not-script_in.false))

pub returns : goal.returns
unfolding scripts_in scripts_of
returns c = let l = c.loop-k in
    sym (counted-passes _ 8 _ _ refl l.k (omega arith) c.if-scripts-gt-SCRIPTS.false l.invariant)
