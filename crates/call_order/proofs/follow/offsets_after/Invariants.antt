-- `call_order::follow::offsets_after` meets its contract. The loop's invariant: the offsets of the descriptors passed are set.
use mathlib.Core.{Bool.cond, List.List, Path.◌≡◌}
use lib.ListN.{length, get_or}
use Prim.Native.Nat.{ℕ}
use Rattle.limits.specs.Limits.{descriptor_count}
use Rattle.standings.specs.Table.{final_offset}
use Rattle.state.proofs.Filled.{filled}
use Rattle.spec.specs.{Transactions.Txn, Commits.sets_offset}
use Rattle.call_order.specs.OrderTable.{descriptors_in}
use Rattle.call_order.proofs.follow.offsets_after.Given as goal

-- The offset of descriptor d after the grant.
abbrev pub offset-after : Txn → List ℕ → ℕ → ℕ
offset-after x offsets d = cond (sets_offset x d) (final_offset (get_or offsets d 0) (x.standing d)) (get_or offsets d 0)

abbrev pub invariant-loop-d : goal.invariant-loop-d
invariant-loop-d l = (l.after ≡ filled (offset-after (descriptors_in l.state l.t) l.offsets) l.offsets l.d)
    × (length l.offsets ≡ descriptor_count)
