-- `flat_scripts::ends_of` meets its contract.
use mathlib.Core.{Path.{◌≡◌}}
use lib.ListN.{length}
use Prim.Native.Nat.{◌-◌, ◌≤◌}
use Rattle.state.proofs.Filled.{filled}
use Rattle.dispatcher.specs.Types.{end_at}
use Rattle.c_scripts.specs.FlatScripts.{end_code}
use Rattle.c_scripts.proofs.flat_scripts.ends_of.Given as goal

abbrev pub invariant-loop-k : goal.invariant-loop-k
invariant-loop-k l = (length l.initial.all ≡ 8) × (l.all ≡ filled (λ i. end_code (end_at l.ends i)) l.initial.all l.k)
