-- `commit_apply::lengths::lengths_after` meets its contract. The loop's invariant: the lengths are those of the records landed so
-- far.
use mathlib.Core.{Path.{◌≡◌}}
use Rattle.commit_apply.specs.Apply.{lengths_landed_in}
use Rattle.commit_apply.proofs.lengths.lengths_after.Given as goal

abbrev pub invariant-loop-k : goal.invariant-loop-k
invariant-loop-k l = l.out ≡ lengths_landed_in l.state l.t l.k
