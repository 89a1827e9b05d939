-- `commit_apply::lengths::lengths_at` meets its contract. The loop's invariant: the lengths read so far, and zeros after them.
use mathlib.Core.{List.List, Path.{◌≡◌}}
use lib.ListN.{length, get_or}
use Prim.Native.Nat.{ℕ}
use Rattle.state.{specs.Layout.store_of, proofs.Filled.{filled}}
use Rattle.commit_apply.proofs.lengths.lengths_at.Given as goal

-- The committed length of file f.
abbrev pub committed : List ℕ → ℕ → ℕ
committed state f = get_or (store_of state).lengths f 0

abbrev pub invariant-loop-f : goal.invariant-loop-f
invariant-loop-f l = (l.out ≡ filled (committed l.state) l.initial.out l.f) × (length l.initial.out ≡ 8)
