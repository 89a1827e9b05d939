-- `commit_conflicts::lengths::any_sighted` meets its contract. The loop's invariant: none of the transactions passed has sighted
-- a length.
use Rattle.commit_conflicts.specs.Conflicts.{NoneSighted}
use Rattle.commit_conflicts.proofs.lengths.any_sighted.Given as goal

abbrev pub invariant-loop-u : goal.invariant-loop-u
invariant-loop-u l = NoneSighted l.state l.watched l.u
