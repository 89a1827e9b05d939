-- `call_window::set_window` meets its contract.
use Rattle.std.proofs.lemmas.Result.{err_from_is_err_and}
use borrow.Author.Rules.{rules}
use mathlib.Core.{List.[], Path.{◌≡◌}}
use Prim.Native.Nat.{◌≤◌}
use Rattle.limits.specs.Limits.{last_minute}
use Rattle.windows.{specs.Windows.minute_in, proofs.WindowLaws.minute-most}
use Rattle.admission.proofs.Laws.{and_left, and_right, AdmittedWindow, admitted-window}
use Rattle.spec.specs.{Machine.{Machine, sizes}, Calls.{call}, Promises.machine_of}
use Rattle.refinement.proofs.TurnLaws.{gate-zero, gate-turned, turned-follows}
use Rattle.call_window.proofs.WindowRules.{window-tests, window-follows}
use Rattle.call_window.proofs.set_window.Goals.{In_ok-admit_window}
use Rattle.call_window.proofs.set_window.Goals as goal

-- What its tests tell, once they are passed.
module _ (c : In_ok-admit_window) where
  abbrev machine : Machine
  machine = machine_of c.args.state.now c.args.files.now c.args.logs.now c.args.marks.now c.args.undo.now

  passed : window-tests machine c.args.f c.args.start c.args.end ≡ 0
  passed = gate-zero _ _ (rw c.of.ensures at c.admit_window.ensures) c.in_ok-admit_window.was

  admits : AdmittedWindow (sizes machine) machine.store machine.journal c.args.f c.args.start c.args.end
  admits = admitted-window (sizes machine) machine.store machine.journal c.args.f c.args.start c.args.end passed

  minutes : (c.args.start ≤ last_minute) × (c.args.end ≤ last_minute)
  minutes = let first = minute_in c.args.start in let last = minute_in c.args.end in
      (minute-most _ (and_left first last admits.minutes), minute-most _ (and_right first last admits.minutes))

pub returns-in_err-admit_window : goal.returns-in_err-admit_window
unfolding call
returns-in_err-admit_window c =
    let p = err_from_is_err_and c.from_residual.result c.from_residual.ensures.1 in rw (p.1, p.2)
    (turned-follows _ [] _ _ _ _ _ _
    (gate-turned _ _ (rw c.of.ensures at c.admit_window.ensures) _ [] _ _ c.in_err-admit_window.was))

pub overflow_cast-w : goal.overflow_cast-w
overflow_cast-w c = let l = minutes (goal.at.overflow_cast-w c).In_ok-admit_window in search rules

pub overflow_cast-w-2 : goal.overflow_cast-w-2
overflow_cast-w-2 c = let l = minutes (goal.at.overflow_cast-w-2 c).In_ok-admit_window in search rules

pub put_window-requires : goal.put_window-requires
put_window-requires c = (admits (goal.at.put_window-requires c).In_ok-admit_window).small

pub returns : goal.returns
returns c = let s = (goal.at.returns c).In_ok-admit_window in let a = c.args in
    window-follows a.f a.start a.end _ _ _ _ _ c.told-state (admits s).small (passed s) _ c.put_window.ensures
