-- `call_order::order_call::best_order` meets its contract.
use mathlib.Core.{List.{List, []}, Path.{◌≡◌, refl, sym, ap, ◌∙◌}}
use native.Mathlib.Omega.{arith}
use Prim.Native.Nat.{ℕ}
use Rattle.windows.proofs.WindowLaws.{minute-most}
use Rattle.admission.{specs.Admission.first_tests, proofs.Laws.first-zero}
use Rattle.spec.specs.{Machine.{Machine, sizes}, Promises.machine_of}
use Rattle.refinement.proofs.TurnLaws.{turned-follows}
use Rattle.call_order.specs.{OrderStatements.Asking, Answer.order_part, OrderTable.list_refusal}
use Rattle.call_order.proofs.{Admitted.{refusal_is, list-in}, CallRules.{refused-with, answered-meets}}
use Rattle.call_order.proofs.order_call.best_order.Goals as goal

module _ (state files logs marks undo ts : List ℕ) (minute budget : ℕ) where
  abbrev lent : Machine
  lent = machine_of state files logs marks undo

  -- What the tests that passed tell.
  asking : first_tests (sizes lent) lent.store lent.journal (list_refusal state ts minute budget) ≡ 0
      → Asking lent ts minute budget
  asking e = let none = (first-zero _ _ _ _ e).2 in record {
    admitted = ap (first_tests (sizes lent) lent.store lent.journal) (sym none) ∙ e;
    passed = sym (refusal_is state files logs marks undo ts minute budget) ∙ none;
  }

pub overflow_cast-minute : goal.overflow_cast-minute
overflow_cast-minute c = let a = c.args in let told = rw (c.in-Ok.is, c.of-sizes.ensures) at c.admitted.ensures in
    omega (arith, minute-most a.minute (list-in a.state.now a.list.now a.minute a.budget (first-zero _ _ _ _ told.1).2).daily)

pub best_by_table-requires : goal.best_by_table-requires
best_by_table-requires c = let told = rw (c.in-Ok.is, c.of-sizes.ensures) at c.admitted.ensures in
    let e = first-zero _ _ _ _ told.1 in rw told.0 (e.1, e.0.marks, e.2)

pub returns-in-Ok : goal.returns-in-Ok
returns-in-Ok c = let a = c.args in let told = rw (c.in-Ok.is, c.of-sizes.ensures) at c.admitted.ensures in
    let found = rw told.0 at c.best_by_table.ensures in
    let asked = asking a.state.now a.files.now a.logs.now a.marks.now a.undo.now a.list.now a.minute a.budget told.1 in
    let e = found.0 a.files.now a.logs.now a.undo.now asked in (
      (answered-meets _ a.list.now a.minute a.budget asked.admitted _ _ e.0 e.1, λ r f n. refl),
      found.1,
    )

pub returns-in-Err : goal.returns-in-Err
unfolding order_part
returns-in-Err c = let a = c.args in let told = rw (c.in-Err.is, c.of-sizes.ensures) at c.admitted.ensures in
    let m = lent a.state.now a.files.now a.logs.now a.marks.now a.undo.now a.list.now a.minute a.budget in
    let same = refusal_is a.state.now a.files.now a.logs.now a.marks.now a.undo.now a.list.now a.minute a.budget in (
      turned-follows c.in-Err.r [] _ _ _ _ _ _ (refused-with m a.list.now a.minute a.budget c.in-Err.r
          (told ∙ ap (first_tests (sizes m) m.store m.journal) same)),
      refl,
    )
