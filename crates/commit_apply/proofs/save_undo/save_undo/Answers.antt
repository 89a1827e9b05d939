-- `commit_apply::save_undo::save_undo` meets its contract.
use Rattle.commit_apply.proofs.SaveUndoLaws.{grant-preserved}
use Rattle.commit_apply.proofs.save_undo.save_undo.Goals as goal

pub returns : goal.returns
returns c = grant-preserved c.args.state.now _ _ _ _ c.args.t c.args.used c.save_records.ensures c.save_found.ensures
    c.put_undo_used.ensures c.put_undo_valid.ensures
