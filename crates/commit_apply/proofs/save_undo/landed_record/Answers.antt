-- `commit_apply::save_undo::landed_record` meets its contract.
use mathlib.Core.Path.{◌∙◌}
use Rattle.commit_apply.proofs.SaveUndoLaws.{landed-is}
use Rattle.commit_apply.proofs.save_undo.landed_record.Goals as goal

pub returns : goal.returns
returns c =
    landed-is c.requires.2 c.record_at-w.ensures c.from.ensures (c.from-c.ensures ∙ c.offset_at.ensures) c.lands_at.ensures
