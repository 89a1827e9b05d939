-- `commit_windows::has_byte_for_closed` meets its contract.
-- No file is closed.
use mathlib.Core.Path.{sym, ap, ◌∙◌}
use Rattle.commit_windows.specs.WindowCheck.{has_byte_for}
use Rattle.commit_windows.proofs.ClosingLaws.{none-closed, closed_is}
use Rattle.commit_windows.proofs.has_byte_for_closed.Goals as goal

-- No file is closed.
pub returns-then-closed-eq0 : goal.returns-then-closed-eq0
returns-then-closed-eq0 c logs long = let start = c in
    sym (none-closed start.args.state.now start.args.t _ c.if-closed-eq0.true)
    ∙ ap (has_byte_for start.args.state.now start.args.t) c.closed_files-closed.ensures
    ∙ closed_is start.args.state.now start.args.t start.requires logs long start.args.minute

pub returns : goal.returns
returns c logs long = let start = c in
    c.has_byte_for.ensures
    ∙ ap (has_byte_for start.args.state.now start.args.t) c.closed_files-closed.ensures
    ∙ closed_is start.args.state.now start.args.t start.requires logs long start.args.minute
