-- `call_commit::count_stale::made_stale` meets its contract. Assumes nothing.
use native.Mathlib.Omega.{arith}
use Rattle.call_commit.proofs.CommitRules.{ones-count, ones-are}
use Rattle.call_commit.proofs.count_stale.made_stale.Goals as goal

pub returns : goal.returns
returns c = (ones-count c.args.octet (omega arith), λ t minute m e. ones-are t m c.args.octet minute e)
