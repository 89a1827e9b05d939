-- Those of the octet passed are stale.
use Rattle.commit_apply.specs.Apply.{Means}
use Rattle.call_commit.proofs.CommitRules.{stale_first}
use Rattle.call_commit.proofs.granting.put_stale_in.Given as goal

abbrev pub invariant-loop-u : goal.invariant-loop-u
invariant-loop-u l = Means l.initial.state l.state (stale_first l.octet l.initial.state l.u)
