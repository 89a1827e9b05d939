-- `end_all_call::end_all` meets its contract. The loop's invariant: the transactions below t are ended.
use mathlib.Core.Path.{◌≡◌}
use native.Mathlib.Omega.{arith}
use Rattle.call_lifecycle.proofs.EndRules.{EndedAll, ended-none, ended-more, ended-all}
use Rattle.call_lifecycle.proofs.end_all_call.end_all.Goals as goal

pub loop-t-init : goal.loop-t-init
loop-t-init c = ended-none _ c.told-state

pub loop-t-preserved : goal.loop-t-preserved
loop-t-preserved c = ended-more _ c.loop-t.t _ _ (omega arith) c.loop-t.invariant c.reset.ensures

pub returns : goal.returns
returns c = let e : c.loop-t.t ≡ 8 = omega arith in
    let all : EndedAll c.args.state.now 8 c.loop-t.state =
    rw e at c.loop-t.invariant in (ended-all _ _ all, all.journal)
