-- `saving::check_state` meets its contract.
use Rattle.std.proofs.lemmas.Result.{err_from_is_err_and}
use Rattle.c_images.proofs.ImageLaws.{check-refused, check-passed}
use Rattle.c_images.proofs.saving.check_state.Goals as goal

pub returns-in_err-range_gate : goal.returns-in_err-range_gate
returns-in_err-range_gate c = let p = err_from_is_err_and c.from_residual.result c.from_residual.ensures.1 in rw (p.1, p.2)
    (check-refused _ _ _ _ _ _ c.range_gate.ensures _ c.in_err-range_gate.was)

pub returns : goal.returns
returns c = check-passed _ _ _ _ _ _ c.range_gate.ensures c.in_ok-range_gate.was
