-- `admission::admit_window` meets its contract.
use Rattle.std.proofs.lemmas.Result.{err_from_is_err_and}
use borrow.Author.{Tests.{le-leb, lt-leb}}
use Rattle.admission.specs.{Admission.{window_refusal, admission_of_window, gate_number}, FirstRefusal.unless}
use Rattle.admission.proofs.Laws.{gate-before, gate-after}
use Rattle.admission.proofs.admit_window.Goals as goal
use Rattle.admission.proofs.admit_window.Goals.{then-not-minute_in-via-then-not-minute_in, then-not-minute_in-via-else-not-minute_in+then-not-minute_in-2}
use Rattle.std.proofs.Common.{◌&&◌, false, ◌≡◌, sym, ◌∙◌}
use Rattle.windows.specs.Windows.{minute_in}
use Rattle.admission.proofs.Tests.{and-fails}

pub returns-in_err-first_tests : goal.returns-in_err-first_tests
unfolding gate_number admission_of_window
returns-in_err-first_tests c = let p = err_from_is_err_and c.from_residual.result c.from_residual.ensures.1 in
    rw (p.1, p.2) (gate-before _ _ _ _ c.first_tests.ensures _ _ c.in_err-first_tests.was)

-- A file number above 7.
pub returns-then-f-gt-LAST_FILE : goal.returns-then-f-gt-LAST_FILE
unfolding gate_number admission_of_window window_refusal unless
returns-then-f-gt-LAST_FILE c =
    gate-after _ _ _ _ c.first_tests.ensures _ 6 c.in_ok-first_tests.was (simp (lt-leb _ _ c.if-f-gt-LAST_FILE.true))

-- A start or an end above 1,439.
pub returns-then-not-minute_in : goal.returns-then-not-minute_in
unfolding gate_number admission_of_window window_refusal unless
returns-then-not-minute_in c = gate-after _ _ _ _ c.first_tests.ensures _ 22 c.in_ok-first_tests.was
    (simp (le-leb _ _ c.if-f-gt-LAST_FILE.false, refused c))
  where
    refused : (c : goal.Joined-then-not-minute_in) → (minute_in c.args.start && minute_in c.args.end) ≡ false
    refused c = elim c.then-not-minute_in.branch [
      | then-not-minute_in-via-then-not-minute_in w ↦ sym (and-fails _ _ (sym c.minute_in.ensures ∙ w.if-not-minute_in.true))
      | then-not-minute_in-via-else-not-minute_in+then-not-minute_in-2 w ↦
          simp (sym c.minute_in.ensures ∙ w.if-not-minute_in.false, sym w.minute_in-else-not-minute_in.ensures ∙ w.if-not-minute_in-2.true)
    ]

pub returns : goal.returns
unfolding gate_number admission_of_window window_refusal unless
returns c = gate-after _ _ _ _ c.first_tests.ensures _ 0 c.in_ok-first_tests.was (simp (
  le-leb _ _ c.if-f-gt-LAST_FILE.false,
  sym c.minute_in.ensures ∙ c.if-not-minute_in.false,
  sym c.minute_in-else-not-minute_in.ensures ∙ c.if-not-minute_in-2.false,
))
