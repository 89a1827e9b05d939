-- `dispatch_call::admit` meets its contract.
use Rattle.std.proofs.lemmas.Result.{err_from_is_err_and}
use Rattle.admission.specs.{Admission.{admission_of_dispatch, gate_number}, FirstRefusal.unless}
use Rattle.admission.proofs.Laws.{failed, test-held, gate-before, gate-after}
use mathlib.Core.Bool.{not}
use mathlib.Core.Path.{ap}
use Rattle.dispatcher.proofs.dispatch_call.admit.Goals as goal

pub returns-in_err-first_tests : goal.returns-in_err-first_tests
unfolding gate_number admission_of_dispatch
returns-in_err-first_tests c = let p = err_from_is_err_and c.from_residual.result c.from_residual.ensures.1 in
    rw (p.1, p.2) (gate-before _ _ _ _ c.first_tests.ensures _ _ c.in_err-first_tests.was)

pub returns-then-not-none_begun : goal.returns-then-not-none_begun
unfolding gate_number admission_of_dispatch unless
returns-then-not-none_begun c = gate-after _ _ _ _ c.first_tests.ensures _ 19 c.in_ok-first_tests.was
    (simp (failed c.none_begun.ensures (ap not c.if-not-none_begun.true)))

pub returns-then-not-scripts_in : goal.returns-then-not-scripts_in
unfolding gate_number admission_of_dispatch unless
returns-then-not-scripts_in c = gate-after _ _ _ _ c.first_tests.ensures _ 20 c.in_ok-first_tests.was (simp (
  test-held c.none_begun.ensures (ap not c.if-not-none_begun.false),
  failed c.scripts_in.ensures (ap not c.if-not-scripts_in.true),
))

pub returns : goal.returns
unfolding gate_number admission_of_dispatch unless
returns c = gate-after _ _ _ _ c.first_tests.ensures _ 0 c.in_ok-first_tests.was (simp (
  test-held c.none_begun.ensures (ap not c.if-not-none_begun.false),
  test-held c.scripts_in.ensures (ap not c.if-not-scripts_in.false),
))
