-- `call_lifecycle::abort` meets its contract.
use Rattle.std.proofs.lemmas.Result.{err_from_is_err_and}
use native.Mathlib.Omega.{arith}
use mathlib.Core.{Bool.{false, not}, List.[], Path.{refl, ap}}
use Rattle.state.specs.{declared.outcomes.Refusal.TheVariants.NotOpen, StoreMeaning.ended}
use Rattle.admission.specs.Admission.{admission}
use Rattle.spec.specs.{Machine.Machine, Calls.{call, admitted, abort_turn}, Promises.machine_of}
use Rattle.refinement.proofs.TurnLaws.{Passed, gate-refused, gate-passes, is-closed, entered, admitted-closed, passing-on}
use Rattle.refinement.proofs.TurnLaws.{turned-follows}
use Rattle.call_lifecycle.proofs.ResetRules.{reset-follows}
use Rattle.call_lifecycle.proofs.abort_call.abort.Goals.{In_ok-admit}
use Rattle.call_lifecycle.proofs.abort_call.abort.Goals as goal

-- What tests 1 to 3 tell, once they are passed.
module _ (c : In_ok-admit) where
  abbrev machine : Machine
  machine = machine_of c.args.state.now c.args.files.now c.args.logs.now c.args.marks.now c.args.undo.now

  passed : Passed machine c.args.t
  passed = gate-passes _ machine c.args.t (rw c.of.ensures at c.admit.ensures) c.in_ok-admit.was

pub returns-in_err-admit : goal.returns-in_err-admit
unfolding call admitted admission
returns-in_err-admit c =
    let p = err_from_is_err_and c.from_residual.result c.from_residual.ensures.1 in rw (p.1, p.2) (let a = c.args in
    let m : Machine = machine_of a.state.now a.files.now a.logs.now a.marks.now a.undo.now in
    turned-follows _ [] _ _ _ _ _ _
    (gate-refused _ m a.t (rw c.of.ensures at c.admit.ensures) _ _ [] (abort_turn a.t m) c.in_err-admit.was))

pub is_begun-requires : goal.is_begun-requires
is_begun-requires c = (passed (goal.at.is_begun-requires c).In_ok-admit).through.small

pub returns-then-not-is_begun : goal.returns-then-not-is_begun
unfolding call
returns-then-not-is_begun c = let s = (goal.at.returns-then-not-is_begun c).In_ok-admit in let p = passed s in
    let a = c.args in
    let closed = is-closed a.state.now a.t p.through.small c.is_begun.ensures (ap not c.if-not-is_begun.true) in
    turned-follows NotOpen [] _ _ _ _ _ _ (admitted-closed (machine s) a.t p.tests closed [] (abort_turn a.t (machine s)))

pub unmark-requires : goal.unmark-requires
unmark-requires c = let p = passed (goal.at.unmark-requires c).In_ok-admit in
    (omega (arith, p.through.small), p.through.lengths.marks)

pub reset-requires : goal.reset-requires
reset-requires c = (passed (goal.at.reset-requires c).In_ok-admit).through.small

pub returns : goal.returns
unfolding call admitted abort_turn ended
returns c = let s = (goal.at.returns c).In_ok-admit in let a = c.args in
    let o = entered (passed s) _ refl c.is_begun.ensures (ap not c.if-not-is_begun.false) in
    let e = passing-on _ [] (machine s) (abort_turn a.t (machine s)) o.admits in
    reset-follows a.t false _ _ _ _ _ c.told-state o.through.small _ e _ _ c.reset.ensures c.unmark.ensures
