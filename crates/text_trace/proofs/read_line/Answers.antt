-- Two numbers, then the line's end.
use Rattle.std.proofs.Common.{refl}
use Rattle.text_trace.proofs.Laws.{after-missing, after-number}
use Rattle.text_trace.proofs.read_line.Goals as goal

pub returns-in_err-d : goal.returns-in_err-d
returns-in_err-d c = rw c.from_residual.ensures (after-missing _ _ _ _ c.in_err-d.ensures refl)

pub returns-in_err-n : goal.returns-in_err-n
returns-in_err-n c = rw c.from_residual-in_err-n.ensures
    (after-number _ _ _ _ c.in_ok-d.ensures _ _ refl (after-missing _ _ _ _ c.in_err-n.ensures refl))

pub returns : goal.returns
returns c = after-number _ _ _ _ c.in_ok-d.ensures _ _ refl
    (after-number _ _ _ _ c.in_ok-n.ensures _ _ refl c.whole_line.ensures)
