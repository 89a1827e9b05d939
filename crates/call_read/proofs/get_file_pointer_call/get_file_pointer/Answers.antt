-- `call_read::get_file_pointer` meets its contract.
use Rattle.std.proofs.lemmas.Result.{err_from_is_err_and}
use native.Mathlib.Omega.{arith}
use mathlib.Core.{Bool.not, List.[], Path.{ap, ◌∙◌}}
use Rattle.standings.specs.Table.{offset_of}
use Rattle.state.specs.{declared.outcomes.Refusal.TheVariants.NotOpen}
use Rattle.admission.specs.Admission.{admission}
use Rattle.spec.specs.{Messages.{Op, buffer_of}, Machine.{Machine}, Calls.{call, admitted, step_turn}, Promises.machine_of}
use Rattle.read_settle.specs.Choices.{chosen_by_pointer}
use Rattle.refinement.proofs.TurnLaws.{LetThrough, gate-refused, gate-passed, gate-let-through, is-closed, admitted-closed, turned-follows}
use Rattle.call_read.proofs.ReadTests.{ReadAdmitted, tests-admit, tests-refuse, read-allowed, all-placeable, settled-as}
use Rattle.call_read.proofs.PointerRules.{pointer-refused, pointer-past-follows, pointer-follows}
use Rattle.call_read.proofs.get_file_pointer_call.get_file_pointer.Goals as goal

pub returns-in_err-admit : goal.returns-in_err-admit
unfolding call admitted admission buffer_of
returns-in_err-admit c =
    let p = err_from_is_err_and c.from_residual.result c.from_residual.ensures.1 in rw (p.1, p.2) (
    let a = c.args in let m : Machine = machine_of a.state.now a.files.now a.logs.now a.marks.now a.undo.now in
    let o = Op.get_file_pointer a.d in
    turned-follows _ (buffer_of o) _ _ _ _ _ _ (gate-refused _ m a.t (rw c.of.ensures at c.admit.ensures) _ _ (buffer_of o)
    (step_turn a.t o m) c.in_err-admit.was))

pub is_begun-requires : goal.is_begun-requires
is_begun-requires c =
    let a = c.args in let m : Machine = machine_of a.state.now a.files.now a.logs.now a.marks.now a.undo.now in
    let through : LetThrough m a.t = gate-let-through _ m a.t (rw c.of.ensures at c.admit.ensures) c.in_ok-admit.was in through.small

pub returns-then-not-is_begun : goal.returns-then-not-is_begun
unfolding call buffer_of
returns-then-not-is_begun c =
    let a = c.args in let m : Machine = machine_of a.state.now a.files.now a.logs.now a.marks.now a.undo.now in
    let o = Op.get_file_pointer a.d in
    let passed = gate-passed _ m a.t (rw c.of.ensures at c.admit.ensures) c.in_ok-admit.was in
    let through : LetThrough m a.t = gate-let-through _ m a.t (rw c.of.ensures at c.admit.ensures) c.in_ok-admit.was in
    let closed = is-closed a.state.now a.t through.small c.is_begun.ensures (ap not c.if-not-is_begun.true) in
    turned-follows NotOpen (buffer_of o) _ _ _ _ _ _ (admitted-closed m a.t passed closed (buffer_of o) (step_turn a.t o m))

pub is_stale-requires : goal.is_stale-requires
is_stale-requires c =
    let a = c.args in let m : Machine = machine_of a.state.now a.files.now a.logs.now a.marks.now a.undo.now in
    let through : LetThrough m a.t = gate-let-through _ m a.t (rw c.of.ensures at c.admit.ensures) c.in_ok-admit.was in through.small

pub returns-in_err-admit_read : goal.returns-in_err-admit_read
returns-in_err-admit_read c =
    let p = err_from_is_err_and c.from_residual-in_err-admit_read.result c.from_residual-in_err-admit_read.ensures.1 in rw (p.1, p.2) (
    let a = c.args in let m : Machine = machine_of a.state.now a.files.now a.logs.now a.marks.now a.undo.now in
    turned-follows _ [] _ _ _ _ _ _ (pointer-refused a.t a.d m
    (tests-admit a.state.now a.files.now a.logs.now a.marks.now a.undo.now a.t (rw c.of.ensures at c.admit.ensures) c.in_ok-admit.was
    c.is_begun.ensures c.if-not-is_begun.false) _
    (tests-refuse a.state.now a.files.now a.logs.now a.marks.now a.undo.now a.t (rw c.of.ensures at c.admit.ensures) c.in_ok-admit.was
    c.is_begun.ensures c.if-not-is_begun.false c.is_stale.ensures a.d 0 0 _ c.admit_read.ensures _
    c.in_err-admit_read.was)))

pub settle_for_pointer-requires : goal.settle_for_pointer-requires
settle_for_pointer-requires c =
    let a = c.args in
    let l : ReadAdmitted a.state.now a.files.now a.logs.now a.marks.now a.undo.now a.t a.d 0 0 =
    read-allowed a.state.now a.files.now a.logs.now a.marks.now a.undo.now a.t (rw c.of.ensures at c.admit.ensures) c.in_ok-admit.was
    c.is_begun.ensures c.if-not-is_begun.false c.is_stale.ensures a.d 0 0 _ c.admit_read.ensures
    c.told-state c.in_ok-admit_read.was in
    record { ready = all-placeable l; few = omega (arith, l.may.low) }

pub returns-in_default : goal.returns-in_default
returns-in_default c =
    let a = c.args in
    let l : ReadAdmitted a.state.now a.files.now a.logs.now a.marks.now a.undo.now a.t a.d 0 0 =
    read-allowed a.state.now a.files.now a.logs.now a.marks.now a.undo.now a.t (rw c.of.ensures at c.admit.ensures) c.in_ok-admit.was
    c.is_begun.ensures c.if-not-is_begun.false c.is_stale.ensures a.d 0 0 _ c.admit_read.ensures
    c.told-state c.in_ok-admit_read.was in
    pointer-past-follows l _ _ (settled-as l (λ x. chosen_by_pointer x a.d) _ _ _ c.settle_for_pointer.ensures
    c.in_default.is)

pub standing_at-standing-requires : goal.standing_at-standing-requires
standing_at-standing-requires c =
    let a = c.args in
    let l : ReadAdmitted a.state.now a.files.now a.logs.now a.marks.now a.undo.now a.t a.d 0 0 =
    read-allowed a.state.now a.files.now a.logs.now a.marks.now a.undo.now a.t (rw c.of.ensures at c.admit.ensures) c.in_ok-admit.was
    c.is_begun.ensures c.if-not-is_begun.false c.is_stale.ensures a.d 0 0 _ c.admit_read.ensures
    c.told-state c.in_ok-admit_read.was in
    (l.held.small, omega (arith, l.may.low))

pub returns : goal.returns
returns c =
    let a = c.args in
    let l : ReadAdmitted a.state.now a.files.now a.logs.now a.marks.now a.undo.now a.t a.d 0 0 =
    read-allowed a.state.now a.files.now a.logs.now a.marks.now a.undo.now a.t (rw c.of.ensures at c.admit.ensures) c.in_ok-admit.was
    c.is_begun.ensures c.if-not-is_begun.false c.is_stale.ensures a.d 0 0 _ c.admit_read.ensures
    c.told-state c.in_ok-admit_read.was in
    pointer-follows l _ (settled-as l (λ x. chosen_by_pointer x a.d) _ _ _ c.settle_for_pointer.ensures
    c.in-Ok.is) _ (c.offset.ensures ∙ ap offset_of c.standing_at-standing.ensures)
