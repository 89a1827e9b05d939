-- `flat_scripts::counts_of` meets its contract.
use mathlib.Core.{Path.{◌≡◌}}
use lib.ListN.{get_or, length}
use Prim.Native.Nat.{◌+◌, ◌-◌, ◌≤◌}
use Rattle.state.proofs.Filled.{filled}
use Rattle.c_scripts.proofs.flat_scripts.counts_of.Given as goal

abbrev pub invariant-loop-k : goal.invariant-loop-k
invariant-loop-k l = (length l.initial.all ≡ 8) × (l.all ≡ filled (λ i. get_or l.flat (512 + i) 0) l.initial.all l.k)
