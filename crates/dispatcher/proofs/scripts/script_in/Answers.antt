-- `scripts::script_in` meets its contract.
use mathlib.Core.{Path.{refl, sym}}
use native.Mathlib.Omega.{arith}
use Rattle.admission.{proofs.Laws.{below-zero, below_more, failed, test-held}}
use Rattle.spec_dispatch.specs.Rounds.{script_in, scripts_in}
use Rattle.dispatcher.specs.Types.{scripts_of}
use Rattle.dispatcher.proofs.ScriptLaws.{counted-over, counted-fails, counted-passes}
use mathlib.Core.Bool.{not}
use mathlib.Core.Path.{ap}
use Rattle.dispatcher.proofs.scripts.script_in.Goals as goal

pub returns-then-calls-gt-SCRIPT_CALLS : goal.returns-then-calls-gt-SCRIPT_CALLS
unfolding script_in scripts_of
returns-then-calls-gt-SCRIPT_CALLS c = sym (counted-over _ 16 _ _ refl c.if-calls-gt-SCRIPT_CALLS.true)

pub loop-i-init : goal.loop-i-init
loop-i-init c = below-zero _

pub returns-then-not-part_in : goal.returns-then-not-part_in
unfolding script_in scripts_of
returns-then-not-part_in c = sym (counted-fails _ 16 _ _ refl
    c.loop-i.i c.loop-i-test.true (failed c.part_in.ensures (ap not c.if-not-part_in.true)))

pub loop-i-preserved : goal.loop-i-preserved
unfolding scripts_of
loop-i-preserved c = below_more _ _ c.loop-i.invariant (test-held c.part_in.ensures (ap not c.if-not-part_in.false))

pub returns : goal.returns
unfolding script_in scripts_of
returns c = let l = c.loop-i in sym (counted-passes _ 16 _ _ refl l.i (omega arith) c.if-calls-gt-SCRIPT_CALLS.false l.invariant)
