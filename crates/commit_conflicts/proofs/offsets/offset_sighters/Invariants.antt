-- `commit_conflicts::offsets::offset_sighters` meets its contract. The loop's invariant: those who have sighted an offset of the
-- descriptors passed.
use mathlib.Core.{List.List}
use Prim.Native.Nat.{ℕ}
use Rattle.state.specs.Layout.{transaction_of}
use Rattle.spec.specs.{Items.Values, Commits.offset_settings}
use Rattle.commit_apply.specs.Apply.{descriptors_only}
use Rattle.commit_conflicts.specs.Conflicts.{Sighters}
use Rattle.commit_conflicts.proofs.offsets.offset_sighters.Given as goal

abbrev pub invariant-loop-d : goal.invariant-loop-d
invariant-loop-d l = (marks : List ℕ) (v : Values)
    → Sighters l.state marks l.watched (offset_settings v (descriptors_only (transaction_of l.state l.t)) l.d) l.found
