-- `call_write::write` meets its contract.
use Rattle.std.proofs.lemmas.Result.{err_from_is_err_and}
use native.Mathlib.Omega.{arith}
use mathlib.Core.{Bool.{not}, List.[], Path.{refl, ap, ◌∙◌}}
use lib.ListN.{length}
use Prim.Native.Nat.{ℕ, ◌+◌, ◌*◌}
use Rattle.limits.specs.Limits.{log_bytes}
use Rattle.buffers.specs.Parts.{pasted}
use Rattle.standings.specs.Table.{write_place}
use Rattle.state.specs.declared.outcomes.Refusal.TheVariants.{NotOpen, NoSuchTarget}
use Rattle.admission.specs.Admission.{admission}
use Rattle.spec.specs.{Messages.{Op, buffer_of}, Machine.{Machine}, Calls.{call, admitted, step_turn}, Promises.machine_of}
use Rattle.refinement.proofs.TurnLaws.{Passed, gate-refused, gate-passes, gate-number, gate-zero, is-closed, entered}
use Rattle.refinement.proofs.TurnLaws.{admitted-closed, turned-follows}
use Rattle.call_write.specs.Writes.{WriteRoom}
use Rattle.call_write.proofs.WriteRules.{WriteReached, room-left, numbers-within, write-no-descriptor, write-no-room}
use Rattle.call_write.proofs.WriteRules.{standing-within, write-follows}
use Rattle.call_write.proofs.write_call.write.Goals.{In_ok-admit, After-write_place, After-from}
use Rattle.call_write.proofs.write_call.write.Goals as goal

-- What tests 1 to 3 tell, once they are passed.
module _ (c : In_ok-admit) where
  abbrev machine : Machine
  machine = machine_of c.args.state.now c.args.files.now c.args.logs.now c.args.marks.now c.args.undo.now

  passed : Passed machine c.args.t
  passed = gate-passes _ machine c.args.t (rw c.of.ensures at c.admit.ensures) c.in_ok-admit.was

-- What the further tests tell, and the reads.
reached : (c : After-write_place) → let a = c.args in WriteReached a.t a.d a.state.now a.files.now a.logs.now a.marks.now
    a.undo.now c.standing_at-standing.result c.used_at-used.result
reached c = let a = c.args in
    let p = gate-passes _ (machine_of a.state.now a.files.now a.logs.now a.marks.now a.undo.now) a.t
    (rw c.of.ensures at c.admit.ensures) c.in_ok-admit.was in
    let o = entered p _ refl c.is_begun.ensures (ap not c.if-not-is_begun.false) in record {
      low = c.if-d-gt-LAST_DESCRIPTOR.false;
      passes = o.admits;
      through = o.through;
      begun = o.begun;
      reads-standing = c.standing_at-standing.ensures;
      reads-used = c.used_at-used.ensures;
    }

room-here : (c : After-from) → WriteRoom (write_place c.standing_at-standing.result) c.used_at-used.result
    (length c.args.bytes.now)
room-here c = room-left _ _ _ (gate-zero _ _ (rw c.write_place.ensures at c.room.ensures) c.in_ok-room.was)

pub returns-in_err-admit : goal.returns-in_err-admit
unfolding call admitted admission buffer_of
returns-in_err-admit c =
    let p = err_from_is_err_and c.from_residual.result c.from_residual.ensures.1 in rw (p.1, p.2) (let a = c.args in
    let m : Machine = machine_of a.state.now a.files.now a.logs.now a.marks.now a.undo.now in
    let o = Op.write a.d a.bytes.now in turned-follows _ [] _ _ _ _ _ _
    (gate-refused _ m a.t (rw c.of.ensures at c.admit.ensures) _ _ [] (step_turn a.t o m) c.in_err-admit.was))

pub is_begun-requires : goal.is_begun-requires
is_begun-requires c = (passed (goal.at.is_begun-requires c).In_ok-admit).through.small

pub returns-then-not-is_begun : goal.returns-then-not-is_begun
unfolding call buffer_of
returns-then-not-is_begun c = let s = (goal.at.returns-then-not-is_begun c).In_ok-admit in let p = passed s in
    let a = c.args in let m = machine s in
    let closed = is-closed a.state.now a.t p.through.small c.is_begun.ensures (ap not c.if-not-is_begun.true) in
    turned-follows NotOpen [] _ _ _ _ _ _
    (admitted-closed m a.t p.tests closed [] (step_turn a.t (Op.write a.d a.bytes.now) m))

pub returns-then-d-gt-LAST_DESCRIPTOR : goal.returns-then-d-gt-LAST_DESCRIPTOR
returns-then-d-gt-LAST_DESCRIPTOR c = let s = (goal.at.returns-then-d-gt-LAST_DESCRIPTOR c).In_ok-admit in
    let o = entered (passed s) _ refl c.is_begun.ensures (ap not c.if-not-is_begun.false) in
    turned-follows NoSuchTarget [] _ _ _ _ _ _
    (write-no-descriptor c.args.t c.args.d c.args.bytes.now (machine s) o.admits c.if-d-gt-LAST_DESCRIPTOR.true)

pub standing_at-standing-requires : goal.standing_at-standing-requires
standing_at-standing-requires c = ((passed (goal.at.standing_at-standing-requires c).In_ok-admit).through.small, omega arith)

pub used_at-used-requires : goal.used_at-used-requires
used_at-used-requires c = (passed (goal.at.used_at-used-requires c).In_ok-admit).through.small

pub room-requires : goal.room-requires
room-requires c = rw c.write_place.ensures (numbers-within (reached (goal.at.room-requires c).After-write_place))

pub returns-in_err-room : goal.returns-in_err-room
returns-in_err-room c =
    let p = err_from_is_err_and c.from_residual-in_err-room.result c.from_residual-in_err-room.ensures.1 in rw (p.1, p.2)
    (turned-follows _ [] _ _ _ _ _ _ (write-no-room (reached (goal.at.returns-in_err-room c).After-write_place)
    c.args.bytes.now _ (gate-number _ _ (rw c.write_place.ensures at c.room.ensures) _ c.in_err-room.was)))

pub overflow_mul-t : goal.overflow_mul-t
overflow_mul-t c = let p = passed (goal.at.overflow_mul-t c).In_ok-admit in omega (arith, p.through.small)

pub overflow_add-t : goal.overflow_add-t
overflow_add-t c = let p = passed (goal.at.overflow_add-t c).In_ok-admit in omega (arith, p.through.small)

pub copy_to-requires : goal.copy_to-requires
copy_to-requires c = let p = passed (goal.at.copy_to-requires c).In_ok-admit in
    let room = room-here (goal.at.copy_to-requires c).After-from in
    omega (arith, p.through.small, room.log, c.from.ensures, p.through.lengths.logs)

pub overflow_cast-bytes : goal.overflow_cast-bytes
overflow_cast-bytes c = omega (arith, (room-here (goal.at.overflow_cast-bytes c).After-from).log)

pub put_write-requires : goal.put_write-requires
put_write-requires c = let r = reached (goal.at.put_write-requires c).After-write_place in record {
  in_range = (r.through.small, omega (arith, r.low));
  write_room = (room-here (goal.at.put_write-requires c).After-from, standing-within r);
}

pub returns : goal.returns
returns c = let a = c.args in
    write-follows (reached (goal.at.returns c).After-write_place) a.bytes.now (room-here (goal.at.returns c).After-from) _ _
    (c.copy_to.ensures ∙ ap (λ (n : ℕ). pasted a.logs.now (log_bytes * a.t + n) a.bytes.now) c.from.ensures)
    c.put_write.ensures.state_after c.put_write.ensures.journal_after
