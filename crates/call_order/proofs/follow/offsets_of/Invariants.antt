-- `call_order::follow::offsets_of` meets its contract. The loop's invariant: the offsets read so far, and zeros after them.
use mathlib.Core.{List.List, Path.◌≡◌}
use lib.ListN.{length, get_or}
use Prim.Native.Nat.{ℕ}
use Rattle.limits.specs.Limits.{descriptor_count}
use Rattle.state.{specs.Layout.store_of, proofs.Filled.filled}
use Rattle.call_order.proofs.follow.offsets_of.Given as goal

-- The committed offset of descriptor d.
abbrev pub committed : List ℕ → ℕ → ℕ
committed state d = get_or (store_of state).offsets d 0

abbrev pub invariant-loop-d : goal.invariant-loop-d
invariant-loop-d l = (l.offsets ≡ filled (committed l.state) l.initial.offsets l.d)
    × (length l.initial.offsets ≡ descriptor_count)
