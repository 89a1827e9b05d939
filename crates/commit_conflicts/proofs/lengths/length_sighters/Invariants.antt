-- `commit_conflicts::lengths::length_sighters` meets its contract. The loop's invariant: those who have sighted a length that is
-- raised of the files passed.
use mathlib.Core.{List.List, Path.{◌≡◌}}
use lib.ListN.{length}
use Prim.Native.Nat.{ℕ}
use Rattle.limits.specs.Limits.{buffer_bytes}
use Rattle.commit_apply.specs.Apply.{CanLandIn, lengths_landed_in}
use Rattle.commit_conflicts.specs.Conflicts.{Sighters}
use Rattle.commit_conflicts.proofs.ConflictLaws.{raised_below}
use Rattle.commit_conflicts.proofs.lengths.length_sighters.Given as goal

abbrev pub invariant-loop-f : goal.invariant-loop-f
invariant-loop-f l =
    (n : ℕ) (files logs marks : List ℕ) → CanLandIn l.state l.t n → l.after ≡ lengths_landed_in l.state l.t n
    → length logs ≡ buffer_bytes → Sighters l.state marks l.watched (raised_below l.state files logs l.t n l.f) l.found
