-- `call_lifecycle::fresh` meets its contract.
use Rattle.std.proofs.lemmas.Result.{err_from_is_err_and}
use mathlib.Core.{List.[]}
use Rattle.admission.{proofs.Laws.admitted-fresh}
use Rattle.spec.specs.{Machine.{Machine, sizes}, Calls.{fresh}, Promises.machine_of}
use Rattle.refinement.proofs.TurnLaws.{gate-zero, gate-turned, turned-follows}
use Rattle.call_lifecycle.proofs.FreshRules.{fresh-follows}
use Rattle.call_lifecycle.proofs.fresh_call.fresh.Goals as goal

pub returns-in_err-admit_fresh : goal.returns-in_err-admit_fresh
unfolding fresh
returns-in_err-admit_fresh c =
    let p = err_from_is_err_and c.from_residual.result c.from_residual.ensures.1 in rw (p.1, p.2)
    (turned-follows _ [] _ _ _ _ _ _
    (gate-turned _ _ (rw c.of.ensures at c.admit_fresh.ensures) _ [] _ _ c.in_err-admit_fresh.was))

pub put_files-requires : goal.put_files-requires
put_files-requires c = let a = c.args in
    let m : Machine = machine_of a.state.now a.files.now a.logs.now a.marks.now a.undo.now in
    (admitted-fresh (sizes m) a.numbers.now
    (gate-zero _ _ (rw c.of.ensures at c.admit_fresh.ensures) c.in_ok-admit_fresh.was)).sixteen

pub returns : goal.returns
returns c =
    fresh-follows c.args.numbers.now _ _ _ _ _
    (gate-zero _ _ (rw c.of.ensures at c.admit_fresh.ensures) c.in_ok-admit_fresh.was) _ _ _ _ c.clear.ensures
    c.put_files.ensures (c.fill.ensures.after (λ y e. e)) (c.fill-2.ensures.after (λ y e. e))
