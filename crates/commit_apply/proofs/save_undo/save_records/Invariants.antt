-- The write records passed are saved.
use Rattle.commit_apply.specs.SaveUndo.{RecordsPreserved}
use Rattle.commit_apply.proofs.save_undo.save_records.Given as goal

abbrev pub invariant-loop-k : goal.invariant-loop-k
invariant-loop-k l = RecordsPreserved l.initial.state l.state l.t l.k
