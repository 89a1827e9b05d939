-- `commit_conflicts::bytes::byte_sighters` meets its contract. The loop's invariant: those who have sighted a byte of the records
-- passed.
use mathlib.Core.{List.List, Path.◌≡◌}
use lib.ListN.{length}
use Prim.Native.Nat.{ℕ}
use Rattle.limits.specs.Limits.{buffer_bytes}
use Rattle.commit_apply.{specs.Apply.bytes_set_in}
use Rattle.commit_conflicts.specs.Conflicts.{Sighters}
use Rattle.commit_conflicts.proofs.bytes.byte_sighters.Given as goal

abbrev pub invariant-loop-k : goal.invariant-loop-k
invariant-loop-k l = (logs : List ℕ) → length logs ≡ buffer_bytes
    → Sighters l.state l.marks l.watched (bytes_set_in l.state logs l.t l.k) l.found
