-- `call_order::order_call::admitted` meets its contract.
use Rattle.std.proofs.lemmas.Result.{err_from_is_err_and}
use mathlib.Core.Path.{refl, sym}
use Rattle.admission.proofs.Laws.{gate-before, gate-after, first-zero}
use Rattle.refinement.proofs.TurnLaws.{gate-zero}
use Rattle.call_order.specs.OrderTable.{list_refusal}
use Rattle.call_order.proofs.order_call.admitted.Goals as goal

pub returns-in_err-first_tests : goal.returns-in_err-first_tests
returns-in_err-first_tests c = let p = err_from_is_err_and c.from_residual.result c.from_residual.ensures.1 in
    rw (p.1, p.2) (gate-before _ _ _ _ c.first_tests.ensures _ _ c.in_err-first_tests.was)

pub admit_list-requires : goal.admit_list-requires
admit_list-requires c = (first-zero _ _ _ 0 (gate-zero _ _ c.first_tests.ensures c.in_ok-first_tests.was)).1

pub returns : goal.returns
returns c = let a = c.args in let later = list_refusal a.state.now a.list.now a.minute a.budget in
    let same = gate-after _ _ _ _ c.first_tests.ensures later later c.in_ok-first_tests.was refl in
    rw (sym same) c.admit_list.ensures
