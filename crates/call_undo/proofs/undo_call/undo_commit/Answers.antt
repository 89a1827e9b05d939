-- `call_undo::undo_commit` meets its contract.
use Rattle.std.proofs.lemmas.Result.{err_from_is_err_and}
use mathlib.Core.{List.[]}
use Rattle.admission.proofs.Laws.{admitted-undo}
use Rattle.spec.specs.{Machine.{Machine, sizes}, Calls.{call}, Promises.machine_of}
use Rattle.refinement.proofs.TurnLaws.{gate-zero, gate-turned, turned-follows}
use Rattle.call_undo.proofs.UndoRules.{undo-follows}
use Rattle.call_undo.proofs.undo_call.undo_commit.Goals as goal

pub returns-in_err-admit_undo : goal.returns-in_err-admit_undo
unfolding call
returns-in_err-admit_undo c =
    let p = err_from_is_err_and c.from_residual.result c.from_residual.ensures.1 in rw (p.1, p.2)
    (turned-follows _ [] _ _ _ _ _ _
    (gate-turned _ _ (rw c.of.ensures at c.admit_undo.ensures) _ [] _ _ c.in_err-admit_undo.was))

pub restore_bytes-requires : goal.restore_bytes-requires
restore_bytes-requires c = let a = c.args in
    let m : Machine = machine_of a.state.now a.files.now a.logs.now a.marks.now a.undo.now in
    let admits = admitted-undo (sizes m) m.store m.journal
    (gate-zero _ _ (rw c.of.ensures at c.admit_undo.ensures) c.in_ok-admit_undo.was) in
    (admits.ranges, admits.valid, admits.lengths.files, admits.lengths.undo)

pub returns : goal.returns
returns c =
    undo-follows _ _ _ _ _ c.told-state _ _ c.put_found.ensures c.put_undo_valid.ensures
    (gate-zero _ _ (rw c.of.ensures at c.admit_undo.ensures) c.in_ok-admit_undo.was) _ c.restore_bytes.ensures
