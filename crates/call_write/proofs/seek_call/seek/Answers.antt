-- `call_write::seek` meets its contract.
use Rattle.std.proofs.lemmas.Result.{err_from_is_err_and}
use native.Mathlib.Omega.{arith}
use mathlib.Core.{Bool.{not}, List.[], Path.{refl, ap}}
use Rattle.state.specs.declared.outcomes.Refusal.TheVariants.{NotOpen, NoSuchTarget, SeekPastEnd}
use Rattle.admission.specs.Admission.{admission}
use Rattle.spec.specs.{Messages.{Op, buffer_of}, Machine.{Machine}, Calls.{call, admitted, step_turn}, Promises.machine_of}
use Rattle.refinement.proofs.TurnLaws.{Passed, gate-refused, gate-passes, is-closed, entered, admitted-closed, turned-follows}
use Rattle.call_write.proofs.SeekRules.{seek-no-descriptor, seek-past-end, seek-fits, seek-follows}
use Rattle.call_write.proofs.seek_call.seek.Goals.{In_ok-admit}
use Rattle.call_write.proofs.seek_call.seek.Goals as goal

-- What tests 1 to 3 tell, once they are passed.
module _ (c : In_ok-admit) where
  abbrev machine : Machine
  machine = machine_of c.args.state.now c.args.files.now c.args.logs.now c.args.marks.now c.args.undo.now

  passed : Passed machine c.args.t
  passed = gate-passes _ machine c.args.t (rw c.of.ensures at c.admit.ensures) c.in_ok-admit.was

pub returns-in_err-admit : goal.returns-in_err-admit
unfolding call admitted admission buffer_of
returns-in_err-admit c =
    let p = err_from_is_err_and c.from_residual.result c.from_residual.ensures.1 in rw (p.1, p.2) (let a = c.args in
    let m : Machine = machine_of a.state.now a.files.now a.logs.now a.marks.now a.undo.now in
    let o = Op.seek a.d a.v in turned-follows _ [] _ _ _ _ _ _
    (gate-refused _ m a.t (rw c.of.ensures at c.admit.ensures) _ _ [] (step_turn a.t o m) c.in_err-admit.was))

pub is_begun-requires : goal.is_begun-requires
is_begun-requires c = (passed (goal.at.is_begun-requires c).In_ok-admit).through.small

pub returns-then-not-is_begun : goal.returns-then-not-is_begun
unfolding call buffer_of
returns-then-not-is_begun c = let s = (goal.at.returns-then-not-is_begun c).In_ok-admit in let p = passed s in
    let a = c.args in let m = machine s in
    let closed = is-closed a.state.now a.t p.through.small c.is_begun.ensures (ap not c.if-not-is_begun.true) in
    turned-follows NotOpen [] _ _ _ _ _ _
    (admitted-closed m a.t p.tests closed [] (step_turn a.t (Op.seek a.d a.v) m))

pub returns-then-d-gt-LAST_DESCRIPTOR : goal.returns-then-d-gt-LAST_DESCRIPTOR
returns-then-d-gt-LAST_DESCRIPTOR c = let s = (goal.at.returns-then-d-gt-LAST_DESCRIPTOR c).In_ok-admit in
    let o = entered (passed s) _ refl c.is_begun.ensures (ap not c.if-not-is_begun.false) in
    turned-follows NoSuchTarget [] _ _ _ _ _ _
    (seek-no-descriptor c.args.t c.args.d c.args.v (machine s) o.admits c.if-d-gt-LAST_DESCRIPTOR.true)

pub returns-then-v-gt-FILE_BYTES : goal.returns-then-v-gt-FILE_BYTES
returns-then-v-gt-FILE_BYTES c = let s = (goal.at.returns-then-v-gt-FILE_BYTES c).In_ok-admit in
    let o = entered (passed s) _ refl c.is_begun.ensures (ap not c.if-not-is_begun.false) in
    turned-follows SeekPastEnd [] _ _ _ _ _ _ (seek-past-end c.args.t c.args.d c.args.v (machine s) o.admits
    c.if-d-gt-LAST_DESCRIPTOR.false c.if-v-gt-FILE_BYTES.true)

pub standing_at-standing-requires : goal.standing_at-standing-requires
standing_at-standing-requires c = ((passed (goal.at.standing_at-standing-requires c).In_ok-admit).through.small, omega arith)

pub put_descriptor-requires : goal.put_descriptor-requires
put_descriptor-requires c = let s = (goal.at.put_descriptor-requires c).In_ok-admit in let a = c.args in
    let o = entered (passed s) _ refl c.is_begun.ensures (ap not c.if-not-is_begun.false) in (
      o.through.small,
      omega arith,
      seek-fits a.t a.d a.v a.state.now a.files.now a.logs.now a.marks.now a.undo.now c.told-state
          c.if-d-gt-LAST_DESCRIPTOR.false c.if-v-gt-FILE_BYTES.false o.through o.begun _ _ c.standing_at-standing.ensures
          c.after_seek.ensures,
    )

pub returns : goal.returns
returns c = let a = c.args in
    let o = entered (passed (goal.at.returns c).In_ok-admit) _ refl c.is_begun.ensures (ap not c.if-not-is_begun.false) in
    seek-follows a.t a.d a.v _ _ _ _ _ c.told-state c.if-d-gt-LAST_DESCRIPTOR.false c.if-v-gt-FILE_BYTES.false o.admits
    o.through o.begun _ _ c.standing_at-standing.ensures c.after_seek.ensures _ c.put_descriptor.ensures
